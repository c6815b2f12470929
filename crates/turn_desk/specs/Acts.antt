-- Own: what one act at a desk is, from the seat before to the seat after. It names the machine's
-- content and never the turn, the slot or the count, by which the code comes to it.
use Rattle.std.specs.Prelude.{◌≡◌, ℕ, List, [], ◌∷◌, ◌++◌}
use mathlib.Core.List.{IsPrefix}
use Rattle.turn_desk.specs.Seats.{SeatState}

module _ {C R E M : Type 0} (story : M → List E) (knows : M → ℕ → List (C × R) → Type 0) where
  -- a content agrees with a seat: it knows the seat's steps, and its story goes on from the seat's log
  abbrev pub Agrees : M → SeatState C R E → Type 0
  Agrees content seat = knows content seat.number seat.steps × IsPrefix seat.log (story content)

module _ {C R E M : Type 0} (story : M → List E) (moved : M → ℕ → C → R → M → Type 0) (knows : M → ℕ → List (C × R) → Type 0) (within : List E → ℕ → List (C × R) → Type 0) where
  -- One act. The machine that stood at the desk agreed with the seat and made one step, with this
  -- call and this reply; the seat has that step behind its others, and the story since it. What
  -- others did meanwhile is seen through the content before alone.
  pub record Acts (old : SeatState C R E) (call : C) (reply : R) (new : SeatState C R E) : Type 0 where
    pub before : M
    pub after : M
    pub agrees : Agrees story knows before old
    pub moves : moved before old.number call reply after
    pub desk : new.desk ≡ old.desk
    pub number : new.number ≡ old.number
    pub steps : new.steps ≡ old.steps ++ (call, reply) ∷ []
    pub log : new.log ≡ story after
    pub known : knows after new.number new.steps
    pub inside : within new.log new.number new.steps
