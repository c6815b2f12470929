-- What all workers of a hall have done, and how it is counted, from their dismissal; and where memory was wanting before any began.
use Rattle.std.proofs.Common.{◌≡◌, ℕ, ◌+◌, ◌-◌, ◌*◌, ◌/◌, ◌^◌, ◌<◌, ◌≤◌, Bool, true, false, List, [], ◌∷◌, ◌++◌, length, map, Option, None, Some, IfSome, refl, sym, ap, ◌∙◌, subst, arith}
use Rattle.atomic_table.specs.Seated.{TableId}
use Rattle.tds_login.specs.declared.config.Config.{Config}
use Rattle.outside_io.specs.Bytes.{HasRisen}
use Rattle.outside_io.specs.Doors.{count_on, has_failed, one_if}
use Rattle.shared_port.specs.Asked.{EngineSeat}
use Rattle.seat_server.specs.declared.tally.Tally.{Tally}
use Rattle.seat_server.specs.declared.worker.Worker.{Worker}
use Rattle.seat_server.specs.Served.{Course}
use Rattle.seat_server.specs.Workers.{AllFollow, AllWorked, AreWithin, HallNumbers, RisesBy, Tallied, TellsCourses, all_courses, share_of, short_in, starved_in}
use Rattle.seat_server.specs.Posts.{AreBack, StaysTold, TakesAll, count_after, no_tally, seats_of, tally_after}
use Rattle.seat_server.proofs.Courses.{count_fresh, count_none, none_some, tells_none}
use Rattle.seat_server.proofs.Dismissed.{Dismissal, SharesSo, closed_in, failed_in}
use Rattle.seat_server.proofs.Shares.{all_dealt}

-- the tally where memory was wanting
abbrev pub no_memory : Tally
no_memory = record { connections = 0; starved = 0; failed = 0; closed = 0; memory = true }

-- no courses for each seat
abbrev no_courses : List EngineSeat → List (List Course)
no_courses seats = map (λ (seat : EngineSeat). []) seats

none_follow : (seats : List EngineSeat) → AllFollow seats (no_courses seats) seats
none_follow [] = tt
none_follow (seat ∷ seats) = (refl, none_follow seats)

none_in_all : (seats : List EngineSeat) → all_courses (no_courses seats) ≡ []
none_in_all [] = refl
none_in_all (seat ∷ seats) = none_in_all seats

zero_bounded : (rounds : Option ℕ) → IfSome rounds (λ all. 0 ≤ all)
zero_bounded None = tt
zero_bounded (Some all) = omega arith

none_within : (rounds : Option ℕ) (many at : ℕ) (seats : List EngineSeat) → AreWithin rounds many at (no_courses seats)
none_within rounds many at [] = tt
none_within rounds many at (seat ∷ seats) = (zero_bounded (share_of rounds many at), none_within rounds many (at + 1) seats)

module _ {L : Type 0} (left given : L → Option (List ℕ)) (read_faults : L → ℕ) (written : L → Option (List ℕ)) (write_faults : L → ℕ) (config : Config) where
  tells_stayed : (courses : List Course) (before mid after : Option (List L)) → StaysTold before mid → TellsCourses left given read_faults written write_faults config courses mid after → TellsCourses left given read_faults written write_faults config courses before after
  tells_stayed courses before mid None stays tells = tt
  tells_stayed courses before None (Some after) stays tells = absurd (none_some tells.2)
  tells_stayed courses before (Some mid) (Some after) stays tells = (tells.0, tells.1, stays ∙ tells.2, tells.3, tells.4)

  pub none_worked : (rounds : Option ℕ) (seats : List EngineSeat) (before after : Option (List L)) (tally : Tally) → StaysTold before after → tally ≡ no_memory
      → AllWorked left given read_faults written write_faults config rounds seats seats before after tally
  none_worked rounds seats before after tally stays is = record {
    each = no_courses seats;
    follow = none_follow seats;
    told = subst (λ (courses : List Course). TellsCourses left given read_faults written write_faults config courses before after) (sym (none_in_all seats)) (tells_stayed [] before after after stays (tells_none left given read_faults written write_faults config after));
    connections = ap (λ (t : Tally). t.connections) is ∙ ap (λ (courses : List Course). count_on 0 (length courses)) (sym (none_in_all seats));
    starved = ap (λ (t : Tally). t.starved) is ∙ ap (λ (courses : List Course). count_on 0 (starved_in courses)) (sym (none_in_all seats));
    within = none_within rounds (length seats) 0 seats;
    short = λ plenty. absurd (let differ : true ≡ false = sym (ap (λ (t : Tally). t.memory) is) ∙ plenty in cc);
  }

pub none_tallied : (rounds : Option ℕ) (workers : ℕ) (before after : HallNumbers) (tally : Tally) → RisesBy before.faults after.faults 0 → RisesBy before.finished after.finished 0 → RisesBy before.failed after.failed 0
    → RisesBy before.closed after.closed 0 → AreBack before.made after.made before.back after.back → tally ≡ no_memory → Tallied rounds workers before after tally
none_tallied rounds workers before after tally faults finished failed closed doors is =
    subst (Tallied rounds workers before after) (sym is) (record {
      faulty = λ some. absurd (let no : ⊥ = omega (arith, some) in no);
      counted = λ bound. omega (arith, bound, faults bound);
      faultless = λ bound none. faults bound ∙ count_none before.faults bound;
      finished = finished;
      failed = failed;
      closed = closed;
      doors = doors.0;
      made = doors.1;
      back = doors.2;
      each = λ plenty. absurd (let differ : true ≡ false = plenty in cc);
      bounded = zero_bounded rounds;
      none = λ wanting. (refl, refl, refl, refl);
      least = λ no. absurd (let differ : true ≡ false = no in cc);
      whole = λ no. absurd (let differ : true ≡ false = no in cc);
      ended = λ no. absurd (let differ : true ≡ false = no in cc);
    })

-- what is read off the shares
bounded_by : (rounds : Option ℕ) (many served failed closed connections : ℕ) → 0 < many → SharesSo rounds many 0 many served failed closed → connections ≡ count_on 0 served → IfSome rounds (λ all. connections ≤ all)
bounded_by None many served failed closed connections some shares is = tt
bounded_by (Some all) many served failed closed connections some shares is = omega (arith, shares.0, all_dealt all many some, is)

least_by : (rounds : Option ℕ) (many served failed closed connections : ℕ) → 0 < many → IfSome rounds (λ all. all < 2 ^ 32) → SharesSo rounds many 0 many served failed closed → connections ≡ count_on 0 served
    → IfSome rounds (λ all. all / many * (many - (failed + closed)) ≤ connections)
least_by None many served failed closed connections some range shares is = tt
least_by (Some all) many served failed closed connections some range shares is =
    let bound : served ≤ all = omega (arith, shares.0, all_dealt all many some) in
    let same : connections ≡ served = omega (arith, is, bound, range) in omega (arith, shares.1, same)

whole_by : (rounds : Option ℕ) (many served failed closed connections : ℕ) → 0 < many → IfSome rounds (λ all. all < 2 ^ 32) → SharesSo rounds many 0 many served failed closed → connections ≡ count_on 0 served
    → failed ≡ 0 → closed ≡ 0 → IfSome rounds (λ all. connections ≡ all)
whole_by None many served failed closed connections some range shares is none_failed none_closed = tt
whole_by (Some all) many served failed closed connections some range shares is none_failed none_closed = omega (arith, shares.2 none_failed none_closed, all_dealt all many some, is, range)

ended_by : (rounds : Option ℕ) (many served failed closed : ℕ) → rounds ≡ None → SharesSo rounds many 0 many served failed closed → failed + closed ≡ many
ended_by None many served failed closed none shares = shares
ended_by (Some all) many served failed closed none shares = absurd (none_some (sym none))

-- ---- all of them

module _ {D : Type 0} (faults : D → ℕ) (is_out has_closed : D → Bool) {L : Type 0} (left given : L → Option (List ℕ)) (read_faults : L → ℕ) (written : L → Option (List ℕ)) (write_faults : L → ℕ) (finished : D → ℕ) (told : D → Option (List L)) (config : Config) (desk : TableId) (closing : Type 0) (rounds : Option ℕ)
    (olds news : List EngineSeat) (workers : List (Worker D)) (tally : Tally) (done : Dismissal faults is_out has_closed left given read_faults written write_faults finished told config desk closing rounds (length olds) 0 olds workers) (is : tally ≡ tally_after no_tally workers) where
  connections_are : tally.connections ≡ count_on 0 (length (all_courses done.each))
  connections_are = ap (λ (t : Tally). t.connections) is ∙ done.connections no_tally (omega arith)

  failed_are : length olds ≤ 64 → tally.failed ≡ failed_in workers
  failed_are few = omega (arith, ap (λ (t : Tally). t.failed) is, done.failed no_tally (omega (arith, done.as_many, few)))

  closed_are : length olds ≤ 64 → tally.closed ≡ closed_in workers
  closed_are few = omega (arith, ap (λ (t : Tally). t.closed) is, done.closed no_tally (omega (arith, done.as_many, few)))

  ended_are : length olds ≤ 64 → failed_in workers + closed_in workers ≡ tally.failed + tally.closed
  ended_are few = omega (arith, failed_are few, closed_are few)

  pub all_worked : (before mid after : Option (List L)) → length olds ≤ 64 → StaysTold before mid → TakesAll told mid workers after → news ≡ [] ++ seats_of workers
      → AllWorked left given read_faults written write_faults config rounds olds news before after tally
  all_worked before mid after few stays takes seats = record {
    each = done.each;
    follow = subst (AllFollow olds done.each) (sym seats) done.follow;
    told = tells_stayed left given read_faults written write_faults config (all_courses done.each) before mid after stays (done.tells mid after takes);
    connections = connections_are;
    starved = ap (λ (t : Tally). t.starved) is ∙ done.starved no_tally (omega arith);
    within = done.within;
    short = λ plenty. subst (λ (ended : ℕ). IfSome rounds (λ all. short_in (Some all) (length olds) 0 done.each ≡ ended)) (ended_are few) done.short;
  }

  pub all_closes : length olds ≤ 64 → 0 < tally.closed → closing
  all_closes few some = done.closes (omega (arith, some, closed_are few))

  pub all_tallied : (before mid after : HallNumbers) → length olds ≤ 64 → 0 < length olds → IfSome rounds (λ all. all < 2 ^ 32)
      → RisesBy before.finished mid.finished 0 → RisesBy before.failed mid.failed 0 → RisesBy before.closed mid.closed 0 → RisesBy before.made mid.made (length olds) → mid.back ≡ before.back
      → after.faults ≡ count_after faults before.faults workers → after.finished ≡ count_after finished mid.finished workers → after.failed ≡ count_after (λ door. one_if (has_failed (faults door))) mid.failed workers
      → after.closed ≡ count_after (λ door. one_if (has_closed door)) mid.closed workers → after.made ≡ mid.made → after.back ≡ count_after (λ door. 1) mid.back workers → Tallied rounds (length olds) before after tally
  all_tallied before mid after few some range finished_stays failed_stays closed_stays made_rises back_stays faults_is finished_is failed_is closed_is made_is back_is = record {
    faulty = λ some. subst (HasRisen before.faults) (sym faults_is) ((done.hall_faults before.faults).0 (omega (arith, some, failed_are few)));
    counted = λ bound. omega (arith, bound, faults_is, (done.hall_faults before.faults).1);
    faultless = λ bound none. faults_is ∙ (done.hall_faults before.faults).2 bound (sym (failed_are few) ∙ none);
    finished = λ bound.
        let same : mid.finished ≡ before.finished = finished_stays bound ∙ count_none before.finished bound in
        finished_is ∙ (ap (λ n. count_after finished n workers) same ∙ (done.hall_finished before.finished bound ∙ (sym (count_fresh before.finished served) ∙ ap (count_on before.finished) (sym connections_are))));
    failed = λ bound.
        let same : mid.failed ≡ before.failed = failed_stays bound ∙ count_none before.failed bound in
        failed_is ∙ (ap (λ n. count_after (λ door. one_if (has_failed (faults door))) n workers) same ∙ (done.hall_failed before.failed bound ∙ ap (count_on before.failed) (sym (failed_are few))));
    closed = λ bound.
        let same : mid.closed ≡ before.closed = closed_stays bound ∙ count_none before.closed bound in
        closed_is ∙ (ap (λ n. count_after (λ door. one_if (has_closed door)) n workers) same ∙ (done.hall_closed before.closed bound ∙ ap (count_on before.closed) (sym (closed_are few))));
    doors = length olds;
    made = λ bound. made_is ∙ made_rises bound;
    back = λ bound.
        back_is ∙ (ap (λ n. count_after (λ door. 1) n workers) back_stays ∙ (done.hall_back before.back bound ∙ ap (count_on before.back) done.as_many));
    each = λ plenty. refl;
    bounded = bounded_by rounds (length olds) served (failed_in workers) (closed_in workers) tally.connections some shares connections_are;
    none = λ wanting. absurd (let differ : true ≡ false = sym wanting ∙ (ap (λ (t : Tally). t.memory) is ∙ done.memory no_tally) in cc);
    least = λ memory. subst (λ ended. IfSome rounds (λ all. all / length olds * (length olds - ended) ≤ tally.connections)) (ap (λ n. n + closed_in workers) (sym (failed_are few)) ∙ ap (λ n. tally.failed + n) (sym (closed_are few)))
        (least_by rounds (length olds) served (failed_in workers) (closed_in workers) tally.connections some range shares connections_are);
    whole = λ memory none_failed none_closed. whole_by rounds (length olds) served (failed_in workers) (closed_in workers) tally.connections some range shares connections_are (sym (failed_are few) ∙ none_failed) (sym (closed_are few) ∙ none_closed);
    ended = λ memory none. omega (arith, failed_are few, closed_are few, ended_by rounds (length olds) served (failed_in workers) (closed_in workers) none shares);
  }
    where
      served : ℕ
      served = length (all_courses done.each)

      shares : SharesSo rounds (length olds) 0 (length olds) served (failed_in workers) (closed_in workers)
      shares = subst (λ n. SharesSo rounds (length olds) 0 n served (failed_in workers) (closed_in workers)) done.as_many done.shares
