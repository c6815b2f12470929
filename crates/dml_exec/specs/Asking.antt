-- Own: parts of a dialog that may fail, one behind another: the first failure ends them. And what a reply of the port refuses.
use Rattle.std.specs.Prelude.{◌≡◌, Bool, true, false, List, Result, Ok, Err, if◌then◌else◌}
use Rattle.std.specs.declared.vec.Vec.{Vec}
use Rattle.std.specs.declared.alloc.Global.{Global}
use Rattle.step_model.specs.declared.manner.Manner.{Manner}
use Rattle.step_model.specs.Exchange.{IsPriority}
use Rattle.step_model.specs.Port.{PortPast}
use Rattle.step_model.specs.Dialog.{Dialog, over, room, ◌then◌}

-- going on where nothing failed
abbrev pub on_ok : {A B E : Type 0} → (A → Dialog (Result B E)) → Result A E → Dialog (Result B E)
on_ok go (Ok a) = go a
on_ok go (Err e) = over (Err e)

infixl 10 ◌>>=◌
abbrev pub ◌>>=◌ : {A B E : Type 0} → Dialog (Result A E) → (A → Dialog (Result B E)) → Dialog (Result B E)
tree >>= go = tree then on_ok go

-- what wants memory first fails so where there is none
abbrev pub with_room : {A E : Type 0} → E → Dialog (Result A E) → Dialog (Result A E)
with_room wanting tree = room λ enough. if enough then tree else over (Err wanting)

-- what wants memory first in this case alone
abbrev pub with_room_if : {A E : Type 0} → Bool → E → Dialog (Result A E) → Dialog (Result A E)
with_room_if true wanting tree = with_room wanting tree
with_room_if false wanting tree = tree

-- a transaction is open, and the priority may be asked
pub record MayWork (past : PortPast) (manner : Manner) : Type 0 where
  pub begun : past.standing.is_open ≡ true
  pub priority : IsPriority manner.priority

-- ---- answers of the code, as dialogs have them

-- a list
abbrev pub seen : {A E : Type 0} → Result (Vec A Global) E → Result (List A) E
seen (Ok xs) = Ok xs.items
seen (Err e) = Err e

-- an answer beside what was gathered
abbrev pub beside : {A B E : Type 0} → A → Result B E → Result (A × B) E
beside more (Ok b) = Ok (more, b)
beside more (Err e) = Err e
