-- Own: what workers did, each with a seat and a door of its own, and how they are counted. It is said of each worker's connections as a
-- list; the code counts them as they come.
use Rattle.std.specs.Prelude.{◌≡◌, ℕ, ◌+◌, ◌-◌, ◌*◌, ◌/◌, ◌%◌, ◌^◌, ◌≤◌, ◌<◌, ltb, Bool, true, false, List, [], ◌∷◌, ◌++◌, length, filter, Option, None, Some, IfSome}
use Rattle.std.specs.List.{AllZip, flat_map}
use Rattle.tds_login.specs.declared.config.Config.{Config}
use Rattle.outside_io.specs.Bytes.{HasRisen, Takes}
use Rattle.outside_io.specs.Doors.{IsUntouched, count_on, one_if}
use Rattle.shared_port.specs.Asked.{EngineSeat}
use Rattle.session_server.specs.Conversation.{CountsFault}
use Rattle.session_server.specs.declared.end.End.{End}
use Rattle.session_server.specs.declared.end.End.TheVariants.{Closed, Cut, BadHeader, TooLong, OutOfPlace, BadPrelogin, LoginRefused, BadBatch, BadRpc, BadTransaction, Spent, ReadFault, WriteFault, Memory}
use Rattle.seat_server.specs.declared.tally.Tally.{Tally}
use Rattle.seat_server.specs.Served.{Course, Follow, ServedConnection}

-- ---- what is told of connections

module _ {L : Type 0} (left given : L → Option (List ℕ)) (read_faults : L → ℕ) (written : L → Option (List ℕ)) (write_faults : L → ℕ) where
  -- a line, as a door was given it back, was served in this course
  pub record IsServedIn (config : Config) (course : Course) (line : L) : Type 0 where
    -- it began as some line through which nothing had gone, and neither side of which had a fault
    pub first : L
    pub untouched : (given first ≡ Some []) × IsUntouched (written first)
    pub faultless : (read_faults first ≡ 0) × (write_faults first ≡ 0)
    pub served : ServedConnection config (Takes left given first line) (left line) (written first) (written line) course.old course.new course.end
    -- when reading and writing have failed
    pub reads : CountsFault (read_faults first) (read_faults line) (course.end ≡ ReadFault)
    pub writes : CountsFault (write_faults first) (write_faults line) (course.end ≡ WriteFault)

  -- where a list of connections is told, it has those of these courses behind what it had
  abbrev pub TellsCourses : Config → List Course → Option (List L) → Option (List L) → Type 0
  TellsCourses config courses before None = Unit {0}
  TellsCourses config courses before (Some after) = (earlier mine : List L) × (before ≡ Some earlier) × (after ≡ earlier ++ mine) × AllZip (IsServedIn config) courses mine

-- ---- all workers

abbrev pub is_memory : End → Bool
is_memory Memory = true
is_memory Closed = false
is_memory (Cut at) = false
is_memory (BadHeader at) = false
is_memory (TooLong at) = false
is_memory (OutOfPlace at kind) = false
is_memory (BadRpc at why) = false
is_memory (BadTransaction at why) = false
is_memory (BadPrelogin fault) = false
is_memory (LoginRefused number) = false
is_memory (BadBatch fault) = false
is_memory Spent = false
is_memory ReadFault = false
is_memory WriteFault = false

-- how many connections ended since memory was wanting
abbrev pub starved_in : List Course → ℕ
starved_in courses = length (filter (λ course. is_memory course.end) courses)

-- the courses of all workers, one worker's behind another's
abbrev pub all_courses : List (List Course) → List Course
all_courses each = flat_map (λ courses. courses) each

-- each of these seats served the connections of its list
abbrev pub AllFollow : List EngineSeat → List (List Course) → List EngineSeat → Type 0
AllFollow [] [] [] = Unit {0}
AllFollow [] [] (new ∷ news) = ⊥
AllFollow [] (courses ∷ each) news = ⊥
AllFollow (old ∷ olds) [] news = ⊥
AllFollow (old ∷ olds) (courses ∷ each) [] = ⊥
AllFollow (old ∷ olds) (courses ∷ each) (new ∷ news) = Follow old courses new × AllFollow olds each news

-- ---- shares

-- the share of the worker at a place: the rounds are dealt to so many workers, and the first ones have one more where they do not come out even
abbrev pub share_of : Option ℕ → ℕ → ℕ → Option ℕ
share_of None many at = None
share_of (Some all) many at = Some (all / many + one_if (ltb at (all % many)))

-- no worker has served more than its share, of those of which the first has this place among so many
abbrev pub AreWithin : Option ℕ → ℕ → ℕ → List (List Course) → Type 0
AreWithin rounds many at [] = Unit {0}
AreWithin rounds many at (courses ∷ each) = IfSome (share_of rounds many at) (λ share. length courses ≤ share) × AreWithin rounds many (at + 1) each

-- a worker is short of its share
abbrev pub is_short : Option ℕ → ℕ → Bool
is_short None served = false
is_short (Some share) served = ltb served share

-- how many of them are
abbrev pub short_in : Option ℕ → ℕ → ℕ → List (List Course) → ℕ
short_in rounds many at [] = 0
short_in rounds many at (courses ∷ each) = one_if (is_short (share_of rounds many at) (length courses)) + short_in rounds many (at + 1) each

module _ {L : Type 0} (left given : L → Option (List ℕ)) (read_faults : L → ℕ) (written : L → Option (List ℕ)) (write_faults : L → ℕ) where
  -- Each seat served the connections of one of these lists, and all of them are what the hall was given back since. None served more than
  -- its share of the rounds, and just as many are short of it as doors failed or closed, unless memory was wanting before they began.
  pub record AllWorked (config : Config) (rounds : Option ℕ) (olds news : List EngineSeat) (told_old told_new : Option (List L)) (tally : Tally) : Type 0 where
    pub each : List (List Course)
    pub follow : AllFollow olds each news
    pub told : TellsCourses left given read_faults written write_faults config (all_courses each) told_old told_new
    pub connections : tally.connections ≡ count_on 0 (length (all_courses each))
    pub starved : tally.starved ≡ count_on 0 (starved_in (all_courses each))
    pub within : AreWithin rounds (length olds) 0 each
    pub short : tally.memory ≡ false → IfSome rounds (λ all. short_in (Some all) (length olds) 0 each ≡ tally.failed + tally.closed)

-- a count has risen by so many, if it was one of its type
abbrev pub RisesBy : ℕ → ℕ → ℕ → Type 0
RisesBy old new more = old ≤ 2 ^ 64 - 1 → new ≡ count_on old more

-- the numbers of a hall: its faults, its finished connections, and its doors: those that failed, that closed, that it has made, and that
-- came back; how often it has begun, and at which port last
pub record HallNumbers : Type 0 where
  pub faults : ℕ
  pub finished : ℕ
  pub failed : ℕ
  pub closed : ℕ
  pub made : ℕ
  pub back : ℕ
  pub begun : ℕ
  pub at_port : Option ℕ

abbrev pub numbers_of : {H : Type 0} → (H → ℕ) → (H → ℕ) → (H → ℕ) → (H → ℕ) → (H → ℕ) → (H → ℕ) → (H → ℕ) → (H → Option ℕ) → H → HallNumbers
numbers_of faults finished failed closed made back begun at_port hall = record {
  faults = faults hall;
  finished = finished hall;
  failed = failed hall;
  closed = closed hall;
  made = made hall;
  back = back hall;
  begun = begun hall;
  at_port = at_port hall;
}

-- How the workers are counted, and what the hall's numbers have risen by, where so many rounds were given. Where memory was wanting for a
-- door or for the list of the workers, none began; else a door was made for each worker, and fewer connections than the rounds come only
-- of doors that failed or closed. All doors that were made came back.
pub record Tallied (rounds : Option ℕ) (workers : ℕ) (before after : HallNumbers) (tally : Tally) : Type 0 where
  pub faulty : 0 < tally.failed → HasRisen before.faults after.faults
  pub counted : before.faults ≤ 2 ^ 64 - 1 → before.faults ≤ after.faults
  pub faultless : before.faults ≤ 2 ^ 64 - 1 → tally.failed ≡ 0 → after.faults ≡ before.faults
  pub finished : RisesBy before.finished after.finished tally.connections
  pub failed : RisesBy before.failed after.failed tally.failed
  pub closed : RisesBy before.closed after.closed tally.closed
  pub doors : ℕ
  pub made : RisesBy before.made after.made doors
  pub back : RisesBy before.back after.back doors
  pub each : tally.memory ≡ false → doors ≡ workers
  pub bounded : IfSome rounds (λ all. tally.connections ≤ all)
  pub none : tally.memory ≡ true → (tally.connections ≡ 0) × (tally.starved ≡ 0) × (tally.failed ≡ 0) × (tally.closed ≡ 0)
  pub least : tally.memory ≡ false → IfSome rounds (λ all. all / workers * (workers - (tally.failed + tally.closed)) ≤ tally.connections)
  pub whole : tally.memory ≡ false → tally.failed ≡ 0 → tally.closed ≡ 0 → IfSome rounds (λ all. tally.connections ≡ all)
  pub ended : tally.memory ≡ false → rounds ≡ None → tally.failed + tally.closed ≡ workers
