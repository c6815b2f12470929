-- Own: the rule of the table under a desk, which holds between any two steps. It speaks of the two
-- words, the slot and what each seat knows, and never of how the code gets from one to the next.
use Rattle.std.specs.Prelude.{◌≡◌, ℕ, ◌<◌, ◌≤◌, ◌%◌, ◌^◌, List, [], ◌∷◌, length, slice_index, Option, None, Some, ◌⊎◌}
use Rattle.std.specs.List.{All}
use mathlib.Core.Option.{none, some}
use mathlib.Core.List.{IsPrefix}
use lib.ListN.{get_elem?}
use Rattle.atomic_table.specs.Table.{State}
use Rattle.turn_desk.specs.declared.view.Past.{Past}
use Rattle.turn_desk.specs.declared.view.View.{View}
use Rattle.turn_desk.specs.declared.view.View.TheVariants.{NumberMaker, LiveSeat, EndedSeats, SpentSeat}
use Rattle.turn_desk.specs.Views.{total, pasts, count_of, times, steps_of}

-- a number that no seat has: 0, or one above those that were made
abbrev pub IsFree : ℕ → ℕ → Type 0
IsFree made n = (n ≡ 0) ⊎ (made < n)

module _ {C R E M : Type 0} (story : M → List E) (knows : M → ℕ → List (C × R) → Type 0) (within : List E → ℕ → List (C × R) → Type 0) where
  -- The content agrees with what a number did. The number is one of those made; the content knows
  -- its steps; its log is a front of the story; and its steps are within its log.
  pub record AgreesWith (content : M) (made : ℕ) (p : Past C R E) : Type 0 where
    pub numbered : (0 < p.number) × (p.number ≤ made)
    pub known : knows content p.number p.steps
    pub seen : IsPrefix p.log (story content)
    pub inside : within p.log p.number p.steps

  -- The seat at place 0 alone makes numbers. A seat with something in hand has its number in word 0,
  -- and has the content in hand.
  abbrev pub FitsRole : M → ℕ → ℕ → View C R E M → Type 0
  FitsRole content turn j (NumberMaker made base) = j ≡ 0
  FitsRole content turn j (LiveSeat p None) = Unit {0}
  FitsRole content turn j (LiveSeat p (Some hand)) = (turn ≡ p.number) × (hand ≡ content)
  FitsRole content turn j (EndedSeats ps) = Unit {0}
  FitsRole content turn j SpentSeat = Unit {0}

  -- nobody has the turn, and the machine stands in the slot
  abbrev pub IsAtHome : M → State (Option M) (View C R E M) → Type 0
  IsAtHome content s = (slice_index s.words 0 ≡ 0) × (s.homes ≡ some (Some content) ∷ [])

  -- a seat has the turn, and the slot is out with it
  abbrev pub IsOut : M → State (Option M) (View C R E M) → Type 0
  IsOut content s = (s.homes ≡ none ∷ [])
      × ((j : ℕ) × (p : Past C R E) × (get_elem? s.views j ≡ some (LiveSeat p (Some content))))

  -- The rule, for the story that the desk opened with and the number of its seats.
  pub record Kept (base : List E) (seats : ℕ) (s : State (Option M) (View C R E M)) : Type 0 where
    -- the machine's content, which stands in the slot or is in the hand of the seat with the turn
    pub content : M
    -- how many numbers were made
    pub made : ℕ
    pub two_words : length s.words ≡ 2
    pub maker : get_elem? s.views 0 ≡ some (NumberMaker made base)
    pub room : made ≤ seats
    -- each number that was made stands once among all pasts, and no other number stands there
    pub each_once : (n : ℕ) → 0 < n → n ≤ made → total (times n) s.views ≡ 1
    pub no_other : (n : ℕ) → IsFree made n → total (times n) s.views ≡ 0
    pub in_all : total count_of s.views ≡ made
    -- either nobody has the turn and the machine stands in the slot, or a seat has both
    pub turn : IsAtHome content s ⊎ IsOut content s
    -- who has the content in hand has its number in word 0
    pub roles : (j : ℕ) (v : View C R E M) → get_elem? s.views j ≡ some v → FitsRole content (slice_index s.words 0) j v
    -- the content knows no steps of a number that no seat has
    pub untaken : (n : ℕ) → IsFree made n → knows content n []
    -- the story goes on from the one at the opening
    pub opened : IsPrefix base (story content)
    -- the content agrees with all pasts, of seats that step and of seats that have ended
    pub agrees : (j : ℕ) (v : View C R E M) → get_elem? s.views j ≡ some v → All (AgreesWith content made) (pasts v)
    -- word 1 is the number of all steps, modulo 2^64
    pub counted : slice_index s.words 1 ≡ total steps_of s.views % 2 ^ 64

  -- The rule at the end, of the machine and of a seat that keeps all pasts: the machine's content
  -- agrees with all of them, there is one for each number, and it knows no steps of any other.
  pub record KeptAtEnd (content : M) (seats : ℕ) (v : View C R E M) : Type 0 where
    pub agrees : All (AgreesWith content seats) (pasts v)
    pub each_once : (n : ℕ) → 0 < n → n ≤ seats → times n v ≡ 1
    pub untaken : (n : ℕ) → IsFree seats n → knows content n []
