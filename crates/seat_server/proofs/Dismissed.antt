-- What workers have done, from what each of them did: their courses one behind another, the counts of a tally and of a hall, and the shares.
use Rattle.std.proofs.Common.{◌≡◌, ◌≢◌, inl, inr, ℕ, zero, suc, ◌+◌, ◌-◌, ◌*◌, ◌/◌, ◌%◌, ◌^◌, ◌<◌, ◌≤◌, min, ltb, Bool, true, false, List, [], ◌∷◌, ◌++◌, length, reverse, Option, None, Some, IfSome, refl, sym, ap, ◌∙◌, subst, arith, length-append}
use Rattle.std.specs.List.{All, AllZip}
use Rattle.std.proofs.lemmas.List.Elements.{All-cons, All-nil}
use Rattle.atomic_table.specs.Seated.{TableId}
use Rattle.tds_login.specs.declared.config.Config.{Config}
use Rattle.outside_io.specs.Bytes.{HasRisen}
use Rattle.outside_io.specs.Doors.{TakesOver, count_on, has_failed, one_if}
use Rattle.shared_port.specs.Asked.{EngineSeat}
use Rattle.seat_server.specs.declared.tally.Tally.{Tally}
use Rattle.seat_server.specs.declared.worker.Outcome.{Outcome}
use Rattle.seat_server.specs.declared.worker.Outcome.TheVariants.{Going, Failed, Closed}
use Rattle.seat_server.specs.declared.worker.Worker.{Worker}
use Rattle.seat_server.specs.Served.{Course, Follow}
use Rattle.seat_server.specs.Workers.{AllFollow, AreWithin, TellsCourses, all_courses, share_of, short_in, starved_in}
use Rattle.seat_server.specs.Posts.{AreHired, IsHired, KeepsShare, TakesAll, Works, count_after, count_up, counted, is_closed, is_failed, one_more, seats_of, tally_after, with_seat}
use Rattle.seat_server.proofs.Courses.{count_fresh, count_none, count_twice, some_is, starved_append, tells_append, tells_none}
use Rattle.seat_server.proofs.Dismissing.{zip_reverse}
use Rattle.seat_server.proofs.Shares.{dealt_from, one_below}

-- how many of them failed, and how many closed
pub failed_in : {D : Type 0} → List (Worker D) → ℕ
failed_in [] = 0
failed_in (worker ∷ workers) = one_if (is_failed worker.outcome) + failed_in workers

pub closed_in : {D : Type 0} → List (Worker D) → ℕ
closed_in [] = 0
closed_in (worker ∷ workers) = one_if (is_closed worker.outcome) + closed_in workers

-- a worker's door has ended it, or it is neither
ended_one : (outcome : Outcome) → outcome ≢ Going → one_if (is_failed outcome) + one_if (is_closed outcome) ≡ 1
ended_one Going is = absurd (is refl)
ended_one Failed is = refl
ended_one Closed is = refl

at_most_one : (outcome : Outcome) → one_if (is_failed outcome) + one_if (is_closed outcome) ≤ 1
at_most_one Going = omega arith
at_most_one Failed = omega arith
at_most_one Closed = omega arith

at_most : (b : Bool) → one_if b ≤ 1
at_most true = omega arith
at_most false = omega arith

one_more_is : (b : Bool) (count : ℕ) → count < 2 ^ 32 - 1 → one_more b (2 ^ 32 - 1) count ≡ count + one_if b
one_more_is true count bound = omega (arith, bound)
one_more_is false count bound = omega arith

-- a count of the code's, and one of the hall's
up_fresh : (n b : ℕ) → n ≤ 2 ^ 64 - 1 → count_up n (count_on 0 b) ≡ count_on n b
up_fresh n b bound = omega (arith, bound)

-- ---- shares

-- What the shares of the workers from a place on say of how many connections they served.
abbrev pub SharesSo : Option ℕ → ℕ → ℕ → ℕ → ℕ → ℕ → ℕ → Type 0
SharesSo None many at workers served failed closed = failed + closed ≡ workers
SharesSo (Some all) many at workers served failed closed =
    (served ≤ dealt_from (all / many) (all % many) at workers) × ((all / many) * (workers - (failed + closed)) ≤ served)
    × (failed ≡ 0 → closed ≡ 0 → served ≡ dealt_from (all / many) (all % many) at workers)

shares_none : (rounds : Option ℕ) (many at : ℕ) → SharesSo rounds many at 0 0 0 0
shares_none None many at = refl
shares_none (Some all) many at = (omega arith, omega arith, λ failed closed. refl)

more_times : (each n : ℕ) → each * suc n ≡ each + each * n
more_times each n = omega arith

least_more : (each workers served here failed closed ended : ℕ) → failed + closed ≤ workers → ended ≤ 1 → each * (workers - (failed + closed)) ≤ served → (ended ≡ 0 → each ≤ here)
    → each * (suc workers - (ended + (failed + closed))) ≤ here + served
least_more each workers served here failed closed zero bound one rest whole =
    let next : suc workers - (0 + (failed + closed)) ≡ suc (workers - (failed + closed)) = omega (arith, bound) in
    let product : each * (suc workers - (0 + (failed + closed))) ≡ each + each * (workers - (failed + closed)) = ap (λ n. each * n) next ∙ more_times each (workers - (failed + closed)) in
    omega (arith, product, rest, whole refl)
least_more each workers served here failed closed (suc ended) bound one rest whole =
    let same : suc workers - (suc ended + (failed + closed)) ≡ workers - (failed + closed) = omega (arith, one, bound) in
    let product : each * (suc workers - (suc ended + (failed + closed))) ≡ each * (workers - (failed + closed)) = ap (λ n. each * n) same in
    omega (arith, product, rest)

is_whole : (outcome : Outcome) (here share : ℕ) → KeepsShare (Some share) here outcome → one_if (is_failed outcome) + one_if (is_closed outcome) ≡ 0 → here ≡ share
is_whole outcome here share (inl all) none = all.0
is_whole outcome here share (inr ended) none = let no : ⊥ = omega (arith, ended_one outcome ended.1, none) in absurd no

has_most : (here most : ℕ) (outcome : Outcome) → KeepsShare (Some most) here outcome → here ≤ most
has_most here most outcome (inl all) = omega (arith, all.0)
has_most here most outcome (inr ended) = omega (arith, ended.0)

shares_more : (rounds : Option ℕ) (many at workers served failed closed here : ℕ) (outcome : Outcome) → failed + closed ≤ workers → SharesSo rounds many (at + 1) workers served failed closed
    → KeepsShare (share_of rounds many at) here outcome
    → SharesSo rounds many at (suc workers) (here + served) (one_if (is_failed outcome) + failed) (one_if (is_closed outcome) + closed)
shares_more None many at workers served failed closed here outcome bound rest keeps = omega (arith, ended_one outcome keeps, rest)
shares_more (Some all) many at workers served failed closed here outcome bound rest keeps =
    let each : ℕ = all / many in
    let ended : ℕ = one_if (is_failed outcome) + one_if (is_closed outcome) in
    let turned : suc workers - ((one_if (is_failed outcome) + failed) + (one_if (is_closed outcome) + closed)) ≡ suc workers - (ended + (failed + closed)) = omega arith in
    let product : each * (suc workers - ((one_if (is_failed outcome) + failed) + (one_if (is_closed outcome) + closed))) ≡ each * (suc workers - (ended + (failed + closed))) = ap (λ n. each * n) turned in
    let whole : ended ≡ 0 → here ≡ each + one_if (ltb at (all % many)) = is_whole outcome here (each + one_if (ltb at (all % many))) keeps in
    let least : each * (suc workers - (ended + (failed + closed))) ≤ here + served = least_more each workers served here failed closed ended bound (at_most_one outcome) rest.1 (λ none. omega (arith, whole none)) in (
      omega (arith, has_most here (each + one_if (ltb at (all % many))) outcome keeps, rest.0),
      omega (arith, product, least),
      λ none_failed none_closed. let none : ended ≡ 0 = omega (arith, none_failed, none_closed) in omega (arith, whole none, rest.2 (omega (arith, none_failed)) (omega (arith, none_closed))),
    )

-- one that keeps its share has no more, and is short of it just where its door has ended it
within_one : (share : Option ℕ) (here : ℕ) (outcome : Outcome) → KeepsShare share here outcome → IfSome share (λ most. here ≤ most)
within_one None here outcome keeps = tt
within_one (Some most) here outcome keeps = has_most here most outcome keeps

going_none : (outcome : Outcome) → outcome ≡ Going → one_if (is_failed outcome) + one_if (is_closed outcome) ≡ 0
going_none outcome is = ap (λ (o : Outcome). one_if (is_failed o) + one_if (is_closed o)) is

short_by : (here most : ℕ) (outcome : Outcome) → KeepsShare (Some most) here outcome → one_if (ltb here most) ≡ one_if (is_failed outcome) + one_if (is_closed outcome)
short_by here most outcome (inl all) = omega (arith, one_below here most, all.0, going_none outcome all.1)
short_by here most outcome (inr ended) = omega (arith, one_below here most, ended.0, ended_one outcome ended.1)

-- How many of the workers from a place on are short of their shares, where rounds are given.
abbrev pub ShortSo : Option ℕ → ℕ → ℕ → List (List Course) → ℕ → Type 0
ShortSo rounds many at each ended = IfSome rounds (λ all. short_in (Some all) many at each ≡ ended)

short_none : (rounds : Option ℕ) (many at : ℕ) → ShortSo rounds many at [] 0
short_none None many at = tt
short_none (Some all) many at = refl

short_more : (rounds : Option ℕ) (many at failed closed : ℕ) (courses : List Course) (each : List (List Course)) (outcome : Outcome) → KeepsShare (share_of rounds many at) (length courses) outcome
    → ShortSo rounds many (at + 1) each (failed + closed) → ShortSo rounds many at (courses ∷ each) ((one_if (is_failed outcome) + failed) + (one_if (is_closed outcome) + closed))
short_more None many at failed closed courses each outcome keeps rest = tt
short_more (Some all) many at failed closed courses each outcome keeps rest =
    let here : one_if (ltb (length courses) (all / many + one_if (ltb at (all % many)))) ≡ one_if (is_failed outcome) + one_if (is_closed outcome) = short_by (length courses) (all / many + one_if (ltb at (all % many))) outcome keeps in
    omega (arith, here, rest)

-- ---- faults

-- How the count of a hall's faults stands behind doors of which so many have failed.
abbrev pub FaultsSo : ℕ → ℕ → ℕ → Type 0
FaultsSo old new failed = (0 < failed → HasRisen old new) × (min old (2 ^ 64 - 1) ≤ new) × (old ≤ 2 ^ 64 - 1 → failed ≡ 0 → new ≡ old)

faults_none : (count : ℕ) → FaultsSo count count 0
faults_none count = (λ some. absurd (let no : ⊥ = omega (arith, some) in no), omega arith, λ bound none. refl)

has_faults : (faults : ℕ) → has_failed faults ≡ true → 0 < faults
has_faults faults is = grind (arith, is)

no_faults : (faults : ℕ) → has_failed faults ≡ false → faults ≡ 0
no_faults faults is = grind (arith, is)

faults_more : (count faults new failed : ℕ) (outcome : Outcome) → has_failed faults ≡ is_failed outcome → FaultsSo (count_on count faults) new failed → FaultsSo count new (one_if (is_failed outcome) + failed)
faults_more count faults new failed outcome is rest = by_failed (is_failed outcome) is
  where
    by_failed : (b : Bool) → has_failed faults ≡ b → FaultsSo count new (one_if b + failed)
    by_failed true fails = (
      λ some. omega (arith, has_faults faults fails, rest.1),
      omega (arith, rest.1),
      λ bound none. absurd (let no : ⊥ = omega (arith, none) in no),
    )
    by_failed false fails = (
      λ some. omega (arith, no_faults faults fails, rest.0 (omega (arith, some))),
      omega (arith, rest.1),
      λ bound none. let sound : faults ≡ 0 = no_faults faults fails in omega (arith, sound, bound, rest.2 (omega arith) (omega (arith, none))),
    )

closes_one : (outcome : Outcome) (closing : Type 0) (others : ℕ) → 0 < one_if (is_closed outcome) + others → (outcome ≡ Closed → closing) → (0 < others → closing) → closing
closes_one Going closing others some here rest = rest (omega (arith, some))
closes_one Failed closing others some here rest = rest (omega (arith, some))
closes_one Closed closing others some here rest = here refl

-- ---- one worker more

module _ {D : Type 0} (faults : D → ℕ) (is_out has_closed : D → Bool) {L : Type 0} (left given : L → Option (List ℕ)) (read_faults : L → ℕ) (written : L → Option (List ℕ)) (write_faults : L → ℕ) (finished : D → ℕ) (told : D → Option (List L)) (config : Config) (desk : TableId) (closing : Type 0) (rounds : Option ℕ) (many : ℕ) where
  -- what these workers, of which the first has this place, have done by these seats
  pub record Dismissal (at : ℕ) (olds : List EngineSeat) (workers : List (Worker D)) : Type 0 where
    pub each : List (List Course)
    pub follow : AllFollow olds each (seats_of workers)
    pub connections : (tally : Tally) → tally.connections ≤ 2 ^ 64 - 1 → (tally_after tally workers).connections ≡ count_on tally.connections (length (all_courses each))
    pub starved : (tally : Tally) → tally.starved ≤ 2 ^ 64 - 1 → (tally_after tally workers).starved ≡ count_on tally.starved (starved_in (all_courses each))
    pub failed : (tally : Tally) → tally.failed + length workers < 2 ^ 32 → (tally_after tally workers).failed ≡ tally.failed + failed_in workers
    pub closed : (tally : Tally) → tally.closed + length workers < 2 ^ 32 → (tally_after tally workers).closed ≡ tally.closed + closed_in workers
    pub memory : (tally : Tally) → (tally_after tally workers).memory ≡ tally.memory
    pub hall_faults : (count : ℕ) → FaultsSo count (count_after faults count workers) (failed_in workers)
    pub hall_finished : (count : ℕ) → count ≤ 2 ^ 64 - 1 → count_after finished count workers ≡ count_on count (length (all_courses each))
    pub hall_failed : (count : ℕ) → count ≤ 2 ^ 64 - 1 → count_after (λ door. one_if (has_failed (faults door))) count workers ≡ count_on count (failed_in workers)
    pub hall_closed : (count : ℕ) → count ≤ 2 ^ 64 - 1 → count_after (λ door. one_if (has_closed door)) count workers ≡ count_on count (closed_in workers)
    pub hall_back : (count : ℕ) → count ≤ 2 ^ 64 - 1 → count_after (λ door. 1) count workers ≡ count_on count (length workers)
    pub tells : (before after : Option (List L)) → TakesAll told before workers after → TellsCourses left given read_faults written write_faults config (all_courses each) before after
    pub few : failed_in workers + closed_in workers ≤ length workers
    pub shares : SharesSo rounds many at (length workers) (length (all_courses each)) (failed_in workers) (closed_in workers)
    pub within : AreWithin rounds many at each
    pub short : ShortSo rounds many at each (failed_in workers + closed_in workers)
    pub as_many : length workers ≡ length olds
    pub closes : 0 < closed_in workers → closing

  none_dismissed : (at : ℕ) → Dismissal at [] []
  unfolding failed_in closed_in
  none_dismissed at = record {
    each = [];
    follow = tt;
    connections = λ tally bound. sym (count_none tally.connections bound);
    starved = λ tally bound. sym (count_none tally.starved bound);
    failed = λ tally bound. omega arith;
    closed = λ tally bound. omega arith;
    memory = λ tally. refl;
    hall_faults = λ count. faults_none count;
    hall_finished = λ count bound. sym (count_none count bound);
    hall_failed = λ count bound. sym (count_none count bound);
    hall_closed = λ count bound. sym (count_none count bound);
    hall_back = λ count bound. sym (count_none count bound);
    tells = λ before after takes. subst (TellsCourses left given read_faults written write_faults config [] before) (sym takes) (tells_none left given read_faults written write_faults config before);
    few = omega arith;
    shares = shares_none rounds many at;
    within = tt;
    short = short_none rounds many at;
    as_many = refl;
    closes = λ some. absurd (let no : ⊥ = omega (arith, some) in no);
  }

  -- a hall takes over what a door tells, which told none at first
  takes_over : (courses : List Course) (new_door before_door : Option (List L)) (before after : Option (List L)) → IfSome before_door (λ connections. connections ≡ []) → TellsCourses left given read_faults written write_faults config courses before_door new_door → TakesOver before new_door after
      → TellsCourses left given read_faults written write_faults config courses before after
  takes_over courses new_door before_door before None new tells takes = tt
  takes_over courses None before_door None (Some after) new tells takes = absurd takes
  takes_over courses None before_door (Some before) (Some after) new tells takes = absurd takes
  takes_over courses (Some door) before_door None (Some after) new tells takes = absurd takes
  takes_over courses (Some door) before_door (Some before) (Some after) new tells takes =
      let nothing : tells.0 ≡ [] = subst (λ (o : Option (List L)). IfSome o (λ connections. connections ≡ [])) tells.2 new in
      let mine : door ≡ tells.1 = tells.3 ∙ ap (λ (l : List L). l ++ tells.1) nothing in
      (before, tells.1, refl, takes ∙ ap (λ (l : List L). before ++ l) mine, tells.4)

  one_dismissed : (at : ℕ) (old : EngineSeat) (olds : List EngineSeat) (hired worker : Worker D) (workers : List (Worker D)) → IsHired faults is_out has_closed finished told old (share_of rounds many at) hired
      → Works faults is_out has_closed left given read_faults written write_faults finished told config desk closing hired worker → Dismissal (at + 1) olds workers → Dismissal at (old ∷ olds) (worker ∷ workers)
  unfolding failed_in closed_in
  one_dismissed at old olds hired worker workers new works rest =
      let worked = works.worked in
      let here : ℕ = length works.courses in
      let before : works.old_seat ≡ old = some_is (sym works.had ∙ new.has) in
      let joined : length (all_courses (works.courses ∷ rest.each)) ≡ here + length (all_courses rest.each) = length-append works.courses (all_courses rest.each) in
      let served : worker.served ≡ count_on 0 here = worked.served (omega (arith, new.served)) ∙ ap (λ n. count_on n here) new.served in
      let starved : worker.starved ≡ count_on 0 (starved_in works.courses) = worked.starved (omega (arith, new.starved)) ∙ ap (λ n. count_on n (starved_in works.courses)) new.starved in
      let door : finished worker.door ≡ count_on 0 here = worked.finished_so (omega (arith, new.door.none)) ∙ ap (λ n. count_on n here) new.door.none in
      let seat : seats_of (worker ∷ workers) ≡ works.new_seat ∷ seats_of workers = ap (λ (o : Option EngineSeat). with_seat o (seats_of workers)) worked.posted.has in
      let failed_so : one_if (has_failed (faults worker.door)) ≡ one_if (is_failed worker.outcome) = ap one_if worked.posted.failed in
      let closed_so : one_if (has_closed worker.door) ≡ one_if (is_closed worker.outcome) = ap one_if worked.posted.closed in
      let one : one_if (is_failed worker.outcome) + one_if (is_closed worker.outcome) ≤ 1 = at_most_one worker.outcome in
      let keeps : KeepsShare (share_of rounds many at) here worker.outcome = subst (λ (share : Option ℕ). KeepsShare share here worker.outcome) new.share_is works.keeps in
      record {
        each = works.courses ∷ rest.each;
        follow = subst (AllFollow (old ∷ olds) (works.courses ∷ rest.each)) (sym seat) (subst (λ (s : EngineSeat). Follow s works.courses works.new_seat) before worked.follow, rest.follow);
        connections = λ tally bound. rest.connections (counted tally worker.served worker.starved worker.outcome) (omega arith)
            ∙ (ap (λ n. count_on (count_up tally.connections n) (length (all_courses rest.each))) served
            ∙ (ap (λ n. count_on n (length (all_courses rest.each))) (up_fresh tally.connections here bound) ∙ (count_twice tally.connections here (length (all_courses rest.each)) ∙ ap (count_on tally.connections) (sym joined))));
        starved = λ tally bound. rest.starved (counted tally worker.served worker.starved worker.outcome) (omega arith)
            ∙ (ap (λ n. count_on (count_up tally.starved n) (starved_in (all_courses rest.each))) starved
            ∙ (ap (λ n. count_on n (starved_in (all_courses rest.each))) (up_fresh tally.starved (starved_in works.courses) bound)
            ∙ (count_twice tally.starved (starved_in works.courses) (starved_in (all_courses rest.each)) ∙ ap (count_on tally.starved) (sym (starved_append works.courses (all_courses rest.each))))));
        failed = λ tally bound. let here = one_more_is (is_failed worker.outcome) tally.failed (omega (arith, bound)) in
            rest.failed (counted tally worker.served worker.starved worker.outcome) (omega (arith, bound, here, at_most (is_failed worker.outcome))) ∙ omega (arith, here);
        closed = λ tally bound. let here = one_more_is (is_closed worker.outcome) tally.closed (omega (arith, bound)) in
            rest.closed (counted tally worker.served worker.starved worker.outcome) (omega (arith, bound, here, at_most (is_closed worker.outcome))) ∙ omega (arith, here);
        memory = λ tally. rest.memory (counted tally worker.served worker.starved worker.outcome);
        hall_faults = λ count. faults_more count (faults worker.door) (count_after faults (count_on count (faults worker.door)) workers) (failed_in workers) worker.outcome worked.posted.failed (rest.hall_faults (count_on count (faults worker.door)));
        hall_finished = λ count bound. rest.hall_finished (count_on count (finished worker.door)) (omega arith)
            ∙ (ap (λ n. count_on (count_on count n) (length (all_courses rest.each))) door
            ∙ (ap (λ n. count_on n (length (all_courses rest.each))) (count_fresh count here) ∙ (count_twice count here (length (all_courses rest.each)) ∙ ap (count_on count) (sym joined))));
        hall_failed = λ count bound. rest.hall_failed (count_on count (one_if (has_failed (faults worker.door)))) (omega arith)
            ∙ (ap (λ n. count_on (count_on count n) (failed_in workers)) failed_so ∙ count_twice count (one_if (is_failed worker.outcome)) (failed_in workers));
        hall_closed = λ count bound. rest.hall_closed (count_on count (one_if (has_closed worker.door))) (omega arith)
            ∙ (ap (λ n. count_on (count_on count n) (closed_in workers)) closed_so ∙ count_twice count (one_if (is_closed worker.outcome)) (closed_in workers));
        hall_back = λ count bound. rest.hall_back (count_on count 1) (omega arith) ∙ (count_twice count 1 (length workers) ∙ ap (count_on count) (let next : 1 + length workers ≡ length (worker ∷ workers) = omega arith in next));
        tells = λ before after takes. tells_append left given read_faults written write_faults config works.courses (all_courses rest.each) before takes.0 after
            (takes_over works.courses (told worker.door) (told hired.door) before takes.0 new.door.nothing worked.tells takes.1)
            (rest.tells takes.0 after takes.2);
        few = omega (arith, rest.few, one);
        shares = subst (λ n. SharesSo rounds many at (suc (length workers)) n (one_if (is_failed worker.outcome) + failed_in workers) (one_if (is_closed worker.outcome) + closed_in workers)) (sym joined)
            (shares_more rounds many at (length workers) (length (all_courses rest.each)) (failed_in workers) (closed_in workers) here worker.outcome rest.few rest.shares keeps);
        within = (within_one (share_of rounds many at) here worker.outcome keeps, rest.within);
        short = short_more rounds many at (failed_in workers) (closed_in workers) works.courses rest.each worker.outcome keeps rest.short;
        as_many = ap suc rest.as_many;
        closes = λ some. closes_one worker.outcome closing (closed_in workers) some works.closes rest.closes;
      }

  pub dismissed : (at : ℕ) (olds : List EngineSeat) (hired workers : List (Worker D)) → AreHired faults is_out has_closed finished told rounds many at olds hired
      → AllZip (Works faults is_out has_closed left given read_faults written write_faults finished told config desk closing) hired workers → Dismissal at olds workers
  dismissed at [] [] [] are works = none_dismissed at
  dismissed at [] [] (worker ∷ workers) are works = absurd works
  dismissed at [] (hired ∷ others) workers are works = absurd are
  dismissed at (old ∷ olds) [] workers are works = absurd are
  dismissed at (old ∷ olds) (hired ∷ others) [] are works = absurd works
  dismissed at (old ∷ olds) (hired ∷ others) (worker ∷ workers) are works = one_dismissed at old olds hired worker workers are.0 works.0 (dismissed (at + 1) olds others workers are.1 works.1)

  -- no connection is out behind their work
  pub all_home : (hired workers : List (Worker D)) → AllZip (Works faults is_out has_closed left given read_faults written write_faults finished told config desk closing) hired workers → All (λ worker. is_out worker.door ≡ false) workers
  all_home [] [] works = All-nil (λ (worker : Worker D). is_out worker.door ≡ false)
  all_home [] (worker ∷ workers) works = absurd works
  all_home (hired ∷ others) [] works = absurd works
  all_home (hired ∷ others) (worker ∷ workers) works = All-cons (λ (worker : Worker D). is_out worker.door ≡ false) worker workers works.0.worked.posted.home (all_home others workers works.1)

  -- as the code has them, from the last to the first
  pub all_done : (olds : List EngineSeat) (hired workers : List (Worker D)) → AreHired faults is_out has_closed finished told rounds many 0 olds (reverse hired)
      → AllZip (Works faults is_out has_closed left given read_faults written write_faults finished told config desk closing) hired workers → Dismissal 0 olds (reverse workers)
  all_done olds hired workers are works =
      dismissed 0 olds (reverse hired) (reverse workers) are (zip_reverse (Works faults is_out has_closed left given read_faults written write_faults finished told config desk closing) hired workers works)
