-- Own: what each kind of step at the table tells the seat that makes it. That a step keeps the rule
-- is asked where it is made.
use Rattle.std.specs.Prelude.{◌≡◌, ◌≢◌, ℕ, ◌+◌, ◌<◌, List, [], ◌∷◌, ◌++◌, Option, None, Some}
use mathlib.Core.List.{IsPrefix}
use Rattle.atomic_table.specs.Table.{Me, Step}
use Rattle.atomic_table.specs.Seated.{TableId}
use Rattle.atomic_table.specs.declared.shared.Seat.{Seat}
use Rattle.turn_desk.specs.declared.view.Past.{Past}
use Rattle.turn_desk.specs.declared.view.View.{View}
use Rattle.turn_desk.specs.declared.view.View.TheVariants.{NumberMaker, LiveSeat, EndedSeats, SpentSeat}
use Rattle.turn_desk.specs.Views.{past, pasts, past_of}

-- a table of two words, the turn and the count, and one slot
abbrev pub IsDeskTable : TableId → Type 0
IsDeskTable table = (table.words ≡ 2) × (table.slots ≡ 1)

-- the same seat of the same table
abbrev pub IsSame : {S V : Type 0} → Seat S V → Seat S V → Type 0
IsSame old new = (new.table_id ≡ old.table_id) × (new.id ≡ old.id)

module _ {C R E M : Type 0} (story : M → List E) (knows : M → ℕ → List (C × R) → Type 0) (within : List E → ℕ → List (C × R) → Type 0) where
  -- what the first seat knows at the start: it has made no number yet
  abbrev pub first_view : M → View C R E M
  first_view machine = NumberMaker 0 (story machine)

  -- a number made: the first seat has made one more
  abbrev pub cut_left : View C R E M → View C R E M
  cut_left (NumberMaker made base) = NumberMaker (made + 1) base
  cut_left v = v

  -- and a new seat has it, with no steps and the opening story
  abbrev pub cut_right : View C R E M → View C R E M
  cut_right (NumberMaker made base) = LiveSeat (past (made + 1) [] base) None
  cut_right v = SpentSeat

  -- what two seats did, kept by one of them
  abbrev pub both_kept : View C R E M → View C R E M → View C R E M
  both_kept v w = EndedSeats (pasts w ++ pasts v)

  -- A try. Where the turn was free the seat has it, and holds the machine, whose content agrees with
  -- what the seat did; else nothing has changed.
  abbrev pub Tries : Step (Option M) → Me (Option M) (View C R E M) → ℕ → Me (Option M) (View C R E M) → Type 0
  Tries st old found new =
      (found ≡ 0 → (p : Past C R E) × (c : M) × (old.0 ≡ LiveSeat p None) × (new ≡ (LiveSeat p (Some c), (0, Some c) ∷ old.1))
      × knows c p.number p.steps × IsPrefix p.log (story c))
      × (found ≢ 0 → new ≡ old)

  -- what a number did, and a step more
  abbrev pub with_step : Past C R E → C → R → M → Past C R E
  with_step p call reply after = past p.number (p.steps ++ (call, reply) ∷ []) (story after)

  -- the count raised: the content in hand is the new one, and the seat has a step more
  abbrev pub Counts : Option ((C × R) × M) → Step (Option M) → Me (Option M) (View C R E M) → ℕ → Me (Option M) (View C R E M) → Type 0
  Counts None st old found new = Unit {0}
  Counts (Some ((call, reply), after)) st old found new = (p : Past C R E) × (c : M) × (old.0 ≡ LiveSeat p (Some c))
      × (new ≡ (LiveSeat (with_step p call reply after) (Some after), old.1))

  -- the turn given back, with the machine
  abbrev pub Leaves : Step (Option M) → Me (Option M) (View C R E M) → ℕ → Me (Option M) (View C R E M) → Type 0
  Leaves st old found new = (p : Past C R E) × (c : M) × (old.0 ≡ LiveSeat p (Some c)) × (new ≡ (LiveSeat p None, []))

  -- the seat has the turn and the machine, whose content agrees with what the seat did
  abbrev pub HasTurn : Me (Option M) (View C R E M) → Type 0
  HasTurn me = (c : M) × (me ≡ (LiveSeat (past_of me.0) (Some c), (0, Some c) ∷ [])) × (0 < (past_of me.0).number)
      × knows c (past_of me.0).number (past_of me.0).steps × IsPrefix (past_of me.0).log (story c)

module _ {C R E M : Type 0} (story : M → List E) (moved : M → ℕ → C → R → M → Type 0) (ready : ℕ → List (C × R) → C → Type 0) (knows : M → ℕ → List (C × R) → Type 0) (within : List E → ℕ → List (C × R) → Type 0) where
  -- the seat has the turn, and the machine that is out with it has made a step
  abbrev pub Moved : Me (Option M) (View C R E M) → C → R → M → Type 0
  Moved me call reply after = (c : M) × (me.0 ≡ LiveSeat (past_of me.0) (Some c)) × knows c (past_of me.0).number (past_of me.0).steps
      × ready (past_of me.0).number (past_of me.0).steps call × moved c (past_of me.0).number call reply after
