-- Own: a desk and its seats, as their callers see them. The code's seat has a number and no list:
-- steps and log are kept by the proof alone.
use Rattle.std.specs.Prelude.{◌≡◌, ℕ, ◌+◌, ◌<◌, List, [], length, slice_index_or}
use Rattle.atomic_table.specs.Seated.{TableId}

-- a seat: its desk, its number, the steps made through it, and the story as the last of them left it
pub record SeatState (C R E : Type 0) : Type 0 where
  pub desk : TableId
  pub number : ℕ
  pub steps : List (C × R)
  pub log : List E

-- a desk: which it is, how many seats it has, and the story that it opened with
pub record DeskState (E : Type 0) : Type 0 where
  pub desk : TableId
  pub seats : ℕ
  pub base : List E

-- the seat at place k among those of a desk, which has made no step
abbrev pub IsNewSeat : {C R E : Type 0} → TableId → List E → ℕ → SeatState C R E → Type 0
IsNewSeat desk base k seat = (seat.desk ≡ desk) × (seat.number ≡ k + 1) × (seat.steps ≡ []) × (seat.log ≡ base)

-- all the seats of a desk, in the order of their numbers, of which none has made a step
abbrev pub AreSeatsOf : {C R E : Type 0} → TableId → ℕ → List E → List (SeatState C R E) → Type 0
AreSeatsOf {C} {R} {E} desk seats base all = (length all ≡ seats)
    × ((k : ℕ) (d : SeatState C R E) → k < seats → IsNewSeat desk base k (slice_index_or all k d))
