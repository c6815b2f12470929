-- Own: what the seats of the table know, and totals over them.
use Rattle.std.specs.Prelude.{ℕ, ◌+◌, ◌==◌, List, [], ◌∷◌, length, None, Some, if◌then◌else◌}
use Rattle.atomic_table.specs.Seated.{TableId}
use Rattle.turn_desk.specs.declared.view.Past.{Past}
use Rattle.turn_desk.specs.declared.view.View.{View}
use Rattle.turn_desk.specs.declared.view.View.TheVariants.{NumberMaker, LiveSeat, EndedSeats, SpentSeat}
use Rattle.turn_desk.specs.Seats.{SeatState}

-- f of each, added up
abbrev pub total : {A : Type 0} → (A → ℕ) → List A → ℕ
total f [] = 0
total f (x ∷ xs) = f x + total f xs

module _ {C R E : Type 0} where
  -- what a number did: its steps, and the story as the last of them left it
  abbrev pub past : ℕ → List (C × R) → List E → Past C R E
  past number steps log = record { number = number; steps = steps; log = log }

  -- a seat of this desk, as its callers see it
  abbrev pub seat_of : TableId → Past C R E → SeatState C R E
  seat_of desk p = record { desk = desk; number = p.number; steps = p.steps; log = p.log }

  -- the past that a seat has
  abbrev pub past_of_seat : SeatState C R E → Past C R E
  past_of_seat seat = past seat.number seat.steps seat.log

  -- 1 where the past is that of the number n
  abbrev pub is_of : ℕ → Past C R E → ℕ
  is_of n p = if p.number == n then 1 else 0

module _ {C R E M : Type 0} where
  -- the pasts that a view has
  abbrev pub pasts : View C R E M → List (Past C R E)
  pasts (NumberMaker made base) = []
  pasts (LiveSeat p hand) = p ∷ []
  pasts (EndedSeats ps) = ps
  pasts SpentSeat = []

  -- how many they are
  abbrev pub count_of : View C R E M → ℕ
  count_of v = length (pasts v)

  -- how many of them are of the number n
  abbrev pub times : ℕ → View C R E M → ℕ
  times n v = total (is_of n) (pasts v)

  -- how many steps they have
  abbrev pub steps_of : View C R E M → ℕ
  steps_of v = total (λ p. length p.steps) (pasts v)

  -- the past of a seat that makes steps
  abbrev pub past_of : View C R E M → Past C R E
  past_of (LiveSeat p hand) = p
  past_of v = past 0 [] []

  -- a view that makes no numbers, with nothing in hand
  abbrev pub IsIdle : View C R E M → Type 0
  IsIdle (NumberMaker made base) = ⊥
  IsIdle (LiveSeat p None) = Unit {0}
  IsIdle (LiveSeat p (Some hand)) = ⊥
  IsIdle (EndedSeats ps) = Unit {0}
  IsIdle SpentSeat = Unit {0}
