-- One connection of a seat, and what a worker has done when it has served one, or one more.
use Rattle.std.proofs.Common.{◌≡◌, ◌≢◌, inl, inr, ℕ, ◌+◌, ◌-◌, ◌^◌, ◌<◌, ◌≤◌, Bool, true, false, List, [], ◌∷◌, ◌++◌, length, Option, None, Some, IfSome, IsSome, refl, sym, ap, ◌∙◌, subst, arith, length-append, append-nil}
use Rattle.std.specs.Prelude.{◌||◌}
use Rattle.atomic_table.specs.Seated.{TableId}
use Rattle.tds_login.specs.declared.config.Config.{Config}
use Rattle.outside_io.specs.Bytes.{Takes}
use Rattle.outside_io.specs.Doors.{IsUntouched, count_on, has_failed, one_if, with_one}
use Rattle.engine_core.specs.Machine.{FitsSteps}
use Rattle.shared_port.specs.Asked.{EngineSeat}
use Rattle.shared_port.specs.SharedPort.{IsIdle, Since, seat_standing, shared_past}
use Rattle.session_server.specs.declared.end.End.{End}
use Rattle.session_server.specs.declared.end.End.TheVariants.{ReadFault, WriteFault}
use Rattle.session_server.specs.Conversation.{Conversation, CountsFault}
use Rattle.seat_server.specs.declared.worker.Outcome.TheVariants.{Going, Closed}
use Rattle.seat_server.specs.declared.worker.Worker.{Worker}
use Rattle.seat_server.specs.Served.{Course, Follow, IsCourse, ServedConnection}
use Rattle.seat_server.specs.Workers.{IsServedIn, RisesBy, TellsCourses, is_memory, starved_in}
use Rattle.seat_server.specs.Posts.{Begins, IsFresh, IsPosted, KeepsShare, Serves, Worked, WorkedNone, WorkedOne, Works, count_up, is_closed, is_failed, is_served, one_more}
use Rattle.seat_server.proofs.Conversing.{is_connection}
use Rattle.session_server.proofs.Wanting.{memory_wanted}
use Rattle.seat_server.proofs.Courses.{count_none, count_twice, follow_append, follow_desk, follow_idle, follow_one, starved_append, starved_one, tells_append, tells_none}
use Rattle.seat_server.proofs.Stretches.{one_connection, stretch_of}

-- ---- a connection of a seat

module _ (config : Config) (gave : List ℕ → Type 0) (left sink_before sink_after : Option (List ℕ)) (old new : EngineSeat) (end : End) where
  pub served_from : (entry : Option EngineSeat) → entry ≡ Some old → IsIdle old → Since old old [] → FitsSteps new.log new.number new.steps → (seat_standing new).is_open ≡ false
      → Conversation config old.number gave left (shared_past entry old) (shared_past entry new) sink_before sink_after end → ServedConnection config gave left sink_before sink_after old new end
  served_from entry is idle begin within closed conversation =
      let here : Conversation config old.number gave left (shared_past (Some old) old) (shared_past (Some old) new) sink_before sink_after end =
      subst (λ (e : Option EngineSeat). Conversation config old.number gave left (shared_past e old) (shared_past e new) sink_before sink_after end) is conversation in
      let since : Since old new here.means.exchanges = here.means.past.led [] begin in
      record {
        conversation = here;
        stretch = stretch_of old new here.means.exchanges since idle within (since.idle idle closed)
            (one_connection here.means.exchanges (is_connection config old.number gave left (shared_past (Some old) old) (shared_past (Some old) new) sink_before sink_after end here));
        memory = memory_wanted config old.number gave left (shared_past (Some old) old) (shared_past (Some old) new) sink_before sink_after end here;
      }

  -- as the code has it: a port of this entry, for the session of this number
  pub served_at : (entry : Option EngineSeat) (number : ℕ) (port_old port_new : EngineSeat) → entry ≡ Some old → number ≡ old.number → port_old ≡ old → new ≡ port_new → IsIdle old → Since port_old port_old []
      → FitsSteps new.log new.number new.steps → (seat_standing port_new).is_open ≡ false → Conversation config number gave left (shared_past entry port_old) (shared_past entry port_new) sink_before sink_after end
      → ServedConnection config gave left sink_before sink_after old new end
  served_at entry number port_old port_new is number_is old_is new_is idle begin within closed conversation =
      served_from entry is idle (subst (λ (seat : EngineSeat). Since seat seat []) old_is begin) within (subst (λ (seat : EngineSeat). (seat_standing seat).is_open ≡ false) (sym new_is) closed)
      (subst (λ (n : ℕ). Conversation config n gave left (shared_past entry old) (shared_past entry new) sink_before sink_after end) number_is
      (subst (λ (seat : EngineSeat). Conversation config number gave left (shared_past entry old) (shared_past entry seat) sink_before sink_after end) (sym new_is)
      (subst (λ (seat : EngineSeat). Conversation config number gave left (shared_past entry seat) (shared_past entry port_new) sink_before sink_after end) old_is conversation)))

  pub course_of : ServedConnection config gave left sink_before sink_after old new end → IsCourse (record { old = old; new = new; end = end })
  course_of served = record {
    exchanges = served.conversation.means.exchanges;
    connection = is_connection config old.number gave left (shared_past (Some old) old) (shared_past (Some old) new) sink_before sink_after end served.conversation;
    stretch = served.stretch;
  }

-- a list that is told, and has nothing, is empty
told_empty : (told : Option (List ℕ)) → IsUntouched told → IsSome told → told ≡ Some []
told_empty None untouched some = absurd (let no : false ≡ true = some in cc)
told_empty (Some bytes) untouched some = ap Some untouched

-- a door that gives a connection has closed if it had
pub still_so : (old new none : Bool) → new ≡ (old || none) → none ≡ false → new ≡ old
still_so true new none is given = is
still_so false new none is given = is ∙ given

one_more_is : (b : Bool) (count : ℕ) → count ≤ 2 ^ 64 - 1 → one_more b (2 ^ 64 - 1) count ≡ count_on count (one_if b)
one_more_is true count bound = omega (arith, bound)
one_more_is false count bound = sym (count_none count bound)

module _ {L : Type 0} (left given : L → Option (List ℕ)) (read_faults : L → ℕ) (written : L → Option (List ℕ)) (write_faults : L → ℕ) (config : Config) where
  pub is_served_in : (line_old line : L) (old new : EngineSeat) (end : End) (connections : Option (List L)) → IsFresh given read_faults written write_faults line_old connections → IsSome connections
      → ServedConnection config (Takes left given line_old line) (left line) (written line_old) (written line) old new end
      → CountsFault (read_faults line_old) (read_faults line) (end ≡ ReadFault) → CountsFault (write_faults line_old) (write_faults line) (end ≡ WriteFault)
      → IsServedIn left given read_faults written write_faults config (record { old = old; new = new; end = end }) line
  is_served_in line_old line old new end connections fresh tells served reads writes = record {
    first = line_old;
    untouched = (told_empty (given line_old) fresh.given_none (fresh.given_told tells), fresh.written_none);
    faultless = (fresh.reads_sound, fresh.writes_sound);
    served = served;
    reads = reads;
    writes = writes;
  }

  tells_one : (course : Course) (line : L) (before after : Option (List L)) → (IsSome before → IsServedIn left given read_faults written write_faults config course line) → after ≡ with_one before line
      → TellsCourses left given read_faults written write_faults config (course ∷ []) before after
  tells_one course line None after served is = subst (TellsCourses left given read_faults written write_faults config (course ∷ []) None) (sym is) tt
  tells_one course line (Some connections) after served is = subst (TellsCourses left given read_faults written write_faults config (course ∷ []) (Some connections)) (sym is) (connections, line ∷ [], refl, refl, (served refl, tt))

module _ {D : Type 0} (faults : D → ℕ) (is_out has_closed : D → Bool) {L : Type 0} (left given : L → Option (List ℕ)) (read_faults : L → ℕ) (written : L → Option (List ℕ)) (write_faults : L → ℕ) (finished : D → ℕ) (told : D → Option (List L)) (config : Config) where
  -- a connection was served, and given back
  pub serves_one : (line_old line : L) (seat seat_new : EngineSeat) (end : End) (old new : Worker D) (mid : D) → IsFresh given read_faults written write_faults line_old (told old.door)
      → ServedConnection config (Takes left given line_old line) (left line) (written line_old) (written line) seat seat_new end
      → CountsFault (read_faults line_old) (read_faults line) (end ≡ ReadFault) → CountsFault (write_faults line_old) (write_faults line) (end ≡ WriteFault)
      → is_out mid ≡ false → finished mid ≡ count_on (finished old.door) 1 → told mid ≡ with_one (told old.door) line → faults mid ≡ faults old.door → has_closed mid ≡ has_closed old.door
      → new ≡ record old { seat = Some seat_new; door = mid; served = count_up old.served 1; starved = one_more (is_memory end) (2 ^ 64 - 1) old.starved }
      → Serves faults is_out has_closed left given read_faults written write_faults finished told config seat old new
  serves_one line_old line seat seat_new end old new mid fresh served reads writes home finished_so told_so faults_so closed_so is =
      let course : Course = record { old = seat; new = seat_new; end = end } in
      let door : new.door ≡ mid = ap (λ (w : Worker D). w.door) is in record {
        course = course;
        course_is = course_of config (Takes left given line_old line) (left line) (written line_old) (written line) seat seat_new end served;
        from_seat = refl;
        to_seat = ap (λ (w : Worker D). w.seat) is;
        tells = tells_one left given read_faults written write_faults config course line (told old.door) (told new.door)
            (λ some. is_served_in left given read_faults written write_faults config line_old line seat seat_new end (told old.door) fresh some served reads writes) (ap told door ∙ told_so);
        home = ap is_out door ∙ home;
        faults_same = ap faults door ∙ faults_so;
        closed_same = ap has_closed door ∙ closed_so;
        finished_more = ap finished door ∙ finished_so;
        share_same = ap (λ (w : Worker D). w.share) is;
        outcome_same = ap (λ (w : Worker D). w.outcome) is;
        served = λ bound. omega (arith, bound, ap (λ (w : Worker D). w.served) is);
        starved = λ bound. ap (λ (w : Worker D). w.starved) is ∙ one_more_is (is_memory end) old.starved bound;
      }

  -- a worker whose door gave a connection, and that has served it
  pub worked_one : (desk : TableId) (seat : EngineSeat) (old mid new : Worker D) → IsPosted faults is_out has_closed desk seat old → finished mid.door ≡ finished old.door → told mid.door ≡ told old.door → faults mid.door ≡ faults old.door → has_closed mid.door ≡ has_closed old.door
      → mid ≡ record old { door = mid.door } → Serves faults is_out has_closed left given read_faults written write_faults finished told config seat mid new
      → WorkedOne faults is_out has_closed left given read_faults written write_faults finished told config desk seat old new
  worked_one desk seat old mid new posted finished_so told_so faults_so closed_so is serves =
      let course : Course = serves.course in
      let outcome : new.outcome ≡ old.outcome = serves.outcome_same ∙ ap (λ (w : Worker D). w.outcome) is in
      let follow : Follow seat (course ∷ []) course.new = follow_one course seat serves.from_seat serves.course_is in (
        course,
        record {
          follow = follow;
          posted = record {
            has = serves.to_seat;
            at_desk = follow_desk seat course.new (course ∷ []) follow ∙ posted.at_desk;
            idle = follow_idle seat course.new (course ∷ []) posted.idle follow;
            home = serves.home;
            failed = ap (λ n. has_failed n) (serves.faults_same ∙ faults_so) ∙ (posted.failed ∙ ap is_failed (sym outcome));
            closed = serves.closed_same ∙ (closed_so ∙ (posted.closed ∙ ap is_closed (sym outcome)));
          };
          share = serves.share_same ∙ ap (λ (w : Worker D). w.share) is;
          finished_so = λ bound. serves.finished_more ∙ ap (λ n. count_on n 1) finished_so;
          tells = subst (λ (before : Option (List L)). TellsCourses left given read_faults written write_faults config (course ∷ []) before (told new.door)) told_so serves.tells;
          served = λ bound. let same : mid.served ≡ old.served = ap (λ (w : Worker D). w.served) is in serves.served (omega (arith, same, bound)) ∙ ap (λ n. count_on n 1) same;
          starved = λ bound. let same : mid.starved ≡ old.starved = ap (λ (w : Worker D). w.starved) is in
              serves.starved (omega (arith, same, bound)) ∙ (ap (λ n. count_on n (one_if (is_memory course.end))) same ∙ ap (count_on old.starved) (sym (starved_one course)));
        },
      )

  -- it has served none
  pub worked_nothing : (desk : TableId) (seat : EngineSeat) (worker : Worker D) → IsPosted faults is_out has_closed desk seat worker → WorkedNone faults is_out has_closed left given read_faults written write_faults finished told config desk seat worker worker
  worked_nothing desk seat worker posted = record {
    follow = refl;
    posted = posted;
    share = refl;
    finished_so = λ bound. sym (count_none (finished worker.door) bound);
    tells = tells_none left given read_faults written write_faults config (told worker.door);
    served = λ bound. sym (count_none worker.served bound);
    starved = λ bound. sym (count_none worker.starved bound);
  }

  -- its door gave none, and has failed or closed
  pub worked_none : (desk : TableId) (seat : EngineSeat) (old new : Worker D) → IsPosted faults is_out has_closed desk seat old → is_out new.door ≡ false → finished new.door ≡ finished old.door → told new.door ≡ told old.door
      → has_failed (faults new.door) ≡ is_failed new.outcome → has_closed new.door ≡ is_closed new.outcome → new ≡ record old { door = new.door; outcome = new.outcome }
      → WorkedNone faults is_out has_closed left given read_faults written write_faults finished told config desk seat old new
  worked_none desk seat old new posted home finished_so told_so failed closed is = record {
    follow = refl;
    posted = record { has = ap (λ (w : Worker D). w.seat) is ∙ posted.has; at_desk = posted.at_desk; idle = posted.idle; home = home; failed = failed; closed = closed };
    share = ap (λ (w : Worker D). w.share) is;
    finished_so = λ bound. finished_so ∙ sym (count_none (finished old.door) bound);
    tells = subst (TellsCourses left given read_faults written write_faults config [] (told old.door)) (sym told_so) (tells_none left given read_faults written write_faults config (told old.door));
    served = λ bound. ap (λ (w : Worker D). w.served) is ∙ sym (count_none old.served bound);
    starved = λ bound. ap (λ (w : Worker D). w.starved) is ∙ sym (count_none old.starved bound);
  }

  -- connections, and then others
  rises_on : (old mid new more again : ℕ) → RisesBy old mid more → RisesBy mid new again → RisesBy old new (more + again)
  rises_on old mid new more again first second bound =
      let here : mid ≡ count_on old more = first bound in
      second (omega (arith, here)) ∙ (ap (λ n. count_on n again) here ∙ count_twice old more again)

  pub worked_on : (desk : TableId) (xs ys : List Course) (seat seat_mid seat_new : EngineSeat) (old mid new : Worker D) → Worked faults is_out has_closed left given read_faults written write_faults finished told config xs desk seat seat_mid old mid
      → Worked faults is_out has_closed left given read_faults written write_faults finished told config ys desk seat_mid seat_new mid new → Worked faults is_out has_closed left given read_faults written write_faults finished told config (xs ++ ys) desk seat seat_new old new
  worked_on desk xs ys seat seat_mid seat_new old mid new first second =
      let longer : length (xs ++ ys) ≡ length xs + length ys = length-append xs ys in record {
        follow = follow_append seat seat_mid seat_new xs ys first.follow second.follow;
        posted = second.posted;
        share = second.share ∙ first.share;
        finished_so = subst (RisesBy (finished old.door) (finished new.door)) (sym longer) (rises_on (finished old.door) (finished mid.door) (finished new.door) (length xs) (length ys) first.finished_so second.finished_so);
        tells = tells_append left given read_faults written write_faults config xs ys (told old.door) (told mid.door) (told new.door) first.tells second.tells;
        served = subst (RisesBy old.served new.served) (sym longer) (rises_on old.served mid.served new.served (length xs) (length ys) first.served second.served);
        starved = subst (RisesBy old.starved new.starved) (sym (starved_append xs ys)) (rises_on old.starved mid.starved new.starved (starved_in xs) (starved_in ys) first.starved second.starved);
      }

  -- ---- the loop

  -- from its first connection on it has served these, by its seat, and goes on
  pub record GoesOn (desk : TableId) (old new : Worker D) : Type 0 where
    pub old_seat : EngineSeat
    pub new_seat : EngineSeat
    pub had : old.seat ≡ Some old_seat
    pub courses : List Course
    pub worked : Worked faults is_out has_closed left given read_faults written write_faults finished told config courses desk old_seat new_seat old new
    pub going : new.outcome ≡ Going
    pub within : IfSome old.share (λ share. length courses ≤ share)

  nothing_within : (share : Option ℕ) → IfSome share (λ many. 0 ≤ many)
  nothing_within None = tt
  nothing_within (Some many) = omega arith

  pub begins_so : (desk : TableId) (worker : Worker D) → Begins faults is_out has_closed desk worker → GoesOn desk worker worker
  begins_so desk worker begins = record {
    old_seat = begins.0.0;
    new_seat = begins.0.0;
    had = begins.0.1.has;
    courses = [];
    worked = worked_nothing desk begins.0.0 worker begins.0.1;
    going = begins.1;
    within = nothing_within worker.share;
  }

  -- it stops where its share is served
  pub stops_served : (desk : TableId) (closing : Type 0) (old new : Worker D) → old.served ≡ 0 → GoesOn desk old new → is_served new.share new.served ≡ true → Works faults is_out has_closed left given read_faults written write_faults finished told config desk closing old new
  stops_served desk closing old new none goes all = record {
    old_seat = goes.old_seat;
    new_seat = goes.new_seat;
    had = goes.had;
    courses = goes.courses;
    worked = goes.worked;
    keeps = by_share old.share goes.within (subst (λ (share : Option ℕ). is_served share new.served ≡ true) goes.worked.share all);
    closes = λ closed. absurd (let no : Going ≡ Closed = sym goes.going ∙ closed in cc);
  }
    where
      counted_so : new.served ≡ count_on 0 (length goes.courses)
      counted_so = goes.worked.served (omega (arith, none)) ∙ ap (λ n. count_on n (length goes.courses)) none

      by_share : (share : Option ℕ) → IfSome share (λ many. length goes.courses ≤ many) → is_served share new.served ≡ true → KeepsShare share (length goes.courses) new.outcome
      by_share None within served = absurd (let no : false ≡ true = served in cc)
      by_share (Some many) within served = inl (grind (arith, within, counted_so, served), goes.going)

  -- or below its share, where its door lets it serve no more
  pub stops_ended : (desk : TableId) (closing : Type 0) (old mid new : Worker D) → old.served ≡ 0 → IfSome mid.share (λ share. share < 2 ^ 32) → GoesOn desk old mid → is_served mid.share mid.served ≡ false → new.outcome ≢ Going → (new.outcome ≡ Closed → closing) → ((seat : EngineSeat) → IsPosted faults is_out has_closed desk seat mid → WorkedNone faults is_out has_closed left given read_faults written write_faults finished told config desk seat mid new)
      → Works faults is_out has_closed left given read_faults written write_faults finished told config desk closing old new
  stops_ended desk closing old mid new begun range goes more ended closes none = record {
    old_seat = goes.old_seat;
    new_seat = goes.new_seat;
    had = goes.had;
    courses = goes.courses ++ [];
    worked = worked_on desk goes.courses [] goes.old_seat goes.new_seat goes.new_seat old mid new goes.worked (none goes.new_seat goes.worked.posted);
    keeps = subst (λ (courses : List Course). KeepsShare old.share (length courses) new.outcome) (sym (append-nil goes.courses))
        (by_share old.share (subst (λ (share : Option ℕ). IfSome share (λ many. many < 2 ^ 32)) goes.worked.share range) goes.within (subst (λ (share : Option ℕ). is_served share mid.served ≡ false) goes.worked.share more));
    closes = closes;
  }
    where
      counted_so : mid.served ≡ count_on 0 (length goes.courses)
      counted_so = goes.worked.served (omega (arith, begun)) ∙ ap (λ n. count_on n (length goes.courses)) begun

      by_share : (share : Option ℕ) → IfSome share (λ many. many < 2 ^ 32) → IfSome share (λ many. length goes.courses ≤ many) → is_served share mid.served ≡ false → KeepsShare share (length goes.courses) new.outcome
      by_share None small within served = ended
      by_share (Some many) small within served = inr (grind (arith, within, small, counted_so, served), ended)

  -- it goes on behind one more
  pub goes_more : (desk : TableId) (old mid new : Worker D) → old.served ≡ 0 → IfSome mid.share (λ share. share < 2 ^ 32) → GoesOn desk old mid → is_served mid.share mid.served ≡ false → new.outcome ≡ Going
      → ((seat : EngineSeat) → IsPosted faults is_out has_closed desk seat mid → WorkedOne faults is_out has_closed left given read_faults written write_faults finished told config desk seat mid new) → GoesOn desk old new
  goes_more desk old mid new none range goes more going one =
      let served = one goes.new_seat goes.worked.posted in record {
        old_seat = goes.old_seat;
        new_seat = served.0.new;
        had = goes.had;
        courses = goes.courses ++ served.0 ∷ [];
        worked = worked_on desk goes.courses (served.0 ∷ []) goes.old_seat goes.new_seat served.0.new old mid new goes.worked served.1;
        going = going;
        within = by_share old.share (subst (λ (share : Option ℕ). IfSome share (λ many. many < 2 ^ 32)) goes.worked.share range) goes.within (subst (λ (share : Option ℕ). is_served share mid.served ≡ false) goes.worked.share more) (length (goes.courses ++ served.0 ∷ [])) (length-append goes.courses (served.0 ∷ []));
      }
    where
      counted_so : mid.served ≡ count_on 0 (length goes.courses)
      counted_so = goes.worked.served (omega (arith, none)) ∙ ap (λ n. count_on n (length goes.courses)) none

      by_share : (share : Option ℕ) → IfSome share (λ many. many < 2 ^ 32) → IfSome share (λ many. length goes.courses ≤ many) → is_served share mid.served ≡ false → (now : ℕ) → now ≡ length goes.courses + 1 → IfSome share (λ many. now ≤ many)
      by_share None small within served now is = tt
      by_share (Some many) small within served now is = grind (arith, within, small, counted_so, served, is)
