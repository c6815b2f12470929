-- Own: one worker at its post, with a seat and a door. It is said of all that it served; the code serves one connection after another.
use Rattle.std.specs.Prelude.{◌≡◌, ℕ, ◌+◌, ◌-◌, ◌^◌, ◌<◌, ◌⊎◌, ◌≢◌, min, nat_le, Bool, true, false, List, [], ◌∷◌, length, Option, None, Some, IfSome, IsSome, IsTrue}
use Rattle.atomic_table.specs.Seated.{TableId}
use Rattle.tds_login.specs.declared.config.Config.{Config}
use Rattle.outside_io.specs.Doors.{IsUntouched, TakesOver, count_on, has_failed, one_if}
use Rattle.shared_port.specs.Asked.{EngineSeat}
use Rattle.shared_port.specs.SharedPort.{IsIdle}
use Rattle.seat_server.specs.declared.tally.Tally.{Tally}
use Rattle.seat_server.specs.declared.worker.Outcome.{Outcome}
use Rattle.seat_server.specs.declared.worker.Outcome.TheVariants.{Going, Failed, Closed}
use Rattle.seat_server.specs.declared.worker.Worker.{Worker}
use Rattle.seat_server.specs.Served.{Course, Follow, IsCourse}
use Rattle.seat_server.specs.Workers.{RisesBy, TellsCourses, is_memory, share_of, starved_in}

-- ---- shares

-- Where rounds are given a worker serves its share of them while its door goes on, or fewer until that has failed or closed. Without
-- rounds only its door ends it.
abbrev pub KeepsShare : Option ℕ → ℕ → Outcome → Type 0
KeepsShare None many outcome = outcome ≢ Going
KeepsShare (Some share) many outcome = ((many ≡ share) × (outcome ≡ Going)) ⊎ ((many < share) × (outcome ≢ Going))

-- there is a door that may close
abbrev pub SomeMayClose : {D : Type 0} → (D → Bool) → Type 0
SomeMayClose {D} may_close = (door : D) × IsTrue (may_close door)

-- it has served its share
abbrev pub is_served : Option ℕ → ℕ → Bool
is_served None served = false
is_served (Some share) served = nat_le share served

-- ---- one worker

abbrev pub is_failed : Outcome → Bool
is_failed Going = false
is_failed Failed = true
is_failed Closed = false

abbrev pub is_closed : Outcome → Bool
is_closed Going = false
is_closed Failed = false
is_closed Closed = true

module _ {L : Type 0} (given : L → Option (List ℕ)) (read_faults : L → ℕ) (written : L → Option (List ℕ)) (write_faults : L → ℕ) where
  -- nothing went through this line yet, and if the door tells its connections, this one tells what it gives
  pub record IsFresh (line : L) (connections : Option (List L)) : Type 0 where
    pub given_none : IsUntouched (given line)
    pub written_none : IsUntouched (written line)
    pub reads_sound : read_faults line ≡ 0
    pub writes_sound : write_faults line ≡ 0
    pub given_told : IsSome connections → IsSome (given line)

module _ {D : Type 0} (faults : D → ℕ) (is_out has_closed : D → Bool) where
  -- It has this seat, which is one of this desk and has no transaction open, and a door at which no connection is out; it knows whether the
  -- door has failed or closed.
  pub record IsPosted (desk : TableId) (seat : EngineSeat) (worker : Worker D) : Type 0 where
    pub has : worker.seat ≡ Some seat
    pub at_desk : seat.desk ≡ desk
    pub idle : IsIdle seat
    pub home : is_out worker.door ≡ false
    pub failed : has_failed (faults worker.door) ≡ is_failed worker.outcome
    pub closed : has_closed worker.door ≡ is_closed worker.outcome

  -- some seat of the desk is there
  abbrev pub HasPost : TableId → Worker D → Type 0
  HasPost desk worker = (seat : EngineSeat) × IsPosted desk seat worker

  -- it has served none yet, and is to begin
  abbrev pub Begins : TableId → Worker D → Type 0
  Begins desk worker = HasPost desk worker × (worker.outcome ≡ Going) × (worker.served ≡ 0)

  module _ {L : Type 0} (left given : L → Option (List ℕ)) (read_faults : L → ℕ) (written : L → Option (List ℕ)) (write_faults : L → ℕ) (finished : D → ℕ) (told : D → Option (List L)) where
    -- It has served one connection by its seat, and has given it back to its door. Nothing else has changed there.
    pub record Serves (config : Config) (seat : EngineSeat) (old new : Worker D) : Type 0 where
      pub course : Course
      pub course_is : IsCourse course
      pub from_seat : course.old ≡ seat
      pub to_seat : new.seat ≡ Some course.new
      pub tells : TellsCourses left given read_faults written write_faults config (course ∷ []) (told old.door) (told new.door)
      pub home : is_out new.door ≡ false
      pub faults_same : faults new.door ≡ faults old.door
      pub closed_same : has_closed new.door ≡ has_closed old.door
      pub finished_more : finished new.door ≡ count_on (finished old.door) 1
      pub share_same : new.share ≡ old.share
      pub outcome_same : new.outcome ≡ old.outcome
      pub served : RisesBy old.served new.served 1
      pub starved : RisesBy old.starved new.starved (one_if (is_memory course.end))

    -- a worker has served these connections by its seat, one behind another, as they came in at its door
    pub record Worked (config : Config) (courses : List Course) (desk : TableId) (old_seat new_seat : EngineSeat) (old new : Worker D) : Type 0 where
      pub follow : Follow old_seat courses new_seat
      pub posted : IsPosted desk new_seat new
      pub share : new.share ≡ old.share
      pub finished_so : RisesBy (finished old.door) (finished new.door) (length courses)
      pub tells : TellsCourses left given read_faults written write_faults config courses (told old.door) (told new.door)
      pub served : RisesBy old.served new.served (length courses)
      pub starved : RisesBy old.starved new.starved (starved_in courses)

    -- from this seat it has served one connection, or none
    abbrev pub WorkedOne : Config → TableId → EngineSeat → Worker D → Worker D → Type 0
    WorkedOne config desk seat old new = (course : Course) × Worked config (course ∷ []) desk seat course.new old new

    abbrev pub WorkedNone : Config → TableId → EngineSeat → Worker D → Worker D → Type 0
    WorkedNone config desk seat old new = Worked config [] desk seat seat old new

    -- What one worker does in all. Where its door has closed, a door may close.
    pub record Works (config : Config) (desk : TableId) (closing : Type 0) (old new : Worker D) : Type 0 where
      pub old_seat : EngineSeat
      pub new_seat : EngineSeat
      pub had : old.seat ≡ Some old_seat
      pub courses : List Course
      pub worked : Worked config courses desk old_seat new_seat old new
      pub keeps : KeepsShare old.share (length courses) new.outcome
      pub closes : new.outcome ≡ Closed → closing

  -- ---- those that are hired

  module _ {C : Type 0} (finished : D → ℕ) (told : D → Option (List C)) where
    -- a door as no connection came in yet
    pub record IsNewDoor (door : D) : Type 0 where
      pub sound : faults door ≡ 0
      pub home : is_out door ≡ false
      pub none : finished door ≡ 0
      pub open_yet : has_closed door ≡ false
      pub nothing : IfSome (told door) (λ connections. connections ≡ [])

    -- a worker before its first connection, with this seat and this share
    pub record IsHired (seat : EngineSeat) (share : Option ℕ) (worker : Worker D) : Type 0 where
      pub has : worker.seat ≡ Some seat
      pub share_is : worker.share ≡ share
      pub served : worker.served ≡ 0
      pub starved : worker.starved ≡ 0
      pub going : worker.outcome ≡ Going
      pub door : IsNewDoor worker.door

    -- the workers for these seats, of which the first has this place among so many
    abbrev pub AreHired : Option ℕ → ℕ → ℕ → List EngineSeat → List (Worker D) → Type 0
    AreHired rounds many at [] [] = Unit {0}
    AreHired rounds many at [] (worker ∷ workers) = ⊥
    AreHired rounds many at (seat ∷ seats) [] = ⊥
    AreHired rounds many at (seat ∷ seats) (worker ∷ workers) = IsHired seat (share_of rounds many at) worker × AreHired rounds many (at + 1) seats workers

-- ---- how they are dismissed, one behind another

-- the tally of none
abbrev pub no_tally : Tally
no_tally = record { connections = 0; starved = 0; failed = 0; closed = 0; memory = false }

-- so many more, up to the end of the type
abbrev pub count_up : ℕ → ℕ → ℕ
count_up count more = min (count + more) (2 ^ 64 - 1)

-- one more where it is so, up to the end of a type
abbrev pub one_more : Bool → ℕ → ℕ → ℕ
one_more true top count = min (count + 1) top
one_more false top count = count

-- a tally with one worker more
abbrev pub counted : Tally → ℕ → ℕ → Outcome → Tally
counted tally served starved outcome = record tally {
  connections = count_up tally.connections served;
  starved = count_up tally.starved starved;
  failed = one_more (is_failed outcome) (2 ^ 32 - 1) tally.failed;
  closed = one_more (is_closed outcome) (2 ^ 32 - 1) tally.closed;
}

abbrev pub tally_after : {D : Type 0} → Tally → List (Worker D) → Tally
tally_after tally [] = tally
tally_after tally (worker ∷ workers) = tally_after (counted tally worker.served worker.starved worker.outcome) workers

-- the seats that they give back
abbrev pub with_seat : Option EngineSeat → List EngineSeat → List EngineSeat
with_seat None seats = seats
with_seat (Some seat) seats = seat ∷ seats

abbrev pub seats_of : {D : Type 0} → List (Worker D) → List EngineSeat
seats_of [] = []
seats_of (worker ∷ workers) = with_seat worker.seat (seats_of workers)

-- a count of a hall behind the doors of these workers
abbrev pub count_after : {D : Type 0} → (D → ℕ) → ℕ → List (Worker D) → ℕ
count_after at count [] = count
count_after at count (worker ∷ workers) = count_after at (count_on count (at worker.door)) workers

-- the list of a hall that has taken over those of their doors
abbrev pub TakesAll : {D C : Type 0} → (D → Option (List C)) → Option (List C) → List (Worker D) → Option (List C) → Type 0
TakesAll told old [] new = new ≡ old
TakesAll {D} {C} told old (worker ∷ workers) new = (mid : Option (List C)) × TakesOver old (told worker.door) mid × TakesAll told mid workers new

-- ---- a hall at which no connection came in

-- as many doors came back as were made, by a hall's counts of both
abbrev pub AreBack : ℕ → ℕ → ℕ → ℕ → Type 0
AreBack made_old made_new back_old back_new = (many : ℕ) × RisesBy made_old made_new many × RisesBy back_old back_new many

-- a list that is told is the one before
abbrev pub StaysTold : {C : Type 0} → Option (List C) → Option (List C) → Type 0
StaysTold before None = Unit {0}
StaysTold before (Some after) = before ≡ Some after

module _ {H C : Type 0} (faults finished failed closed : H → ℕ) (told : H → Option (List C)) where
  -- what it counts of connections and its list stay, whatever doors were made and came back
  pub record IsUnmoved (old new : H) : Type 0 where
    pub faults_same : RisesBy (faults old) (faults new) 0
    pub finished_same : RisesBy (finished old) (finished new) 0
    pub failed_same : RisesBy (failed old) (failed new) 0
    pub closed_same : RisesBy (closed old) (closed new) 0
    pub told_same : StaysTold (told old) (told new)
