-- Own: what answers say. An answer is the outcome that is meant; want of memory says nothing.
use Rattle.std.specs.Prelude.{◌≡◌, Result, Ok, Err}
use Rattle.bound_tree.specs.Outcomes.{Outcome}
use Rattle.scalar_eval.specs.declared.fault.EvalFault.{EvalFault}
use Rattle.scalar_eval.specs.declared.fault.EvalFault.TheVariants.{Number, Named, Memory}
use Rattle.scalar_eval.specs.declared.fault.Stop.{Stop}
use Rattle.scalar_eval.specs.declared.fault.Stop.TheVariants as stop

-- the answer is this outcome, if memory is not wanting; a number has no name here
abbrev pub Gives : {A : Type 0} → Result A EvalFault → Outcome A → Type 0
Gives (Ok x) outcome = outcome ≡ Ok x
Gives (Err (Number number)) outcome = outcome ≡ Err number
Gives (Err (Named number name)) outcome = ⊥
Gives (Err Memory) outcome = Unit {0}

-- the same within an evaluation
abbrev pub Finds : {A : Type 0} → Result A Stop → Outcome A → Type 0
Finds (Ok x) outcome = outcome ≡ Ok x
Finds (Err (stop.Number number)) outcome = outcome ≡ Err number
Finds (Err stop.Memory) outcome = Unit {0}

abbrev pub widened : Stop → EvalFault
widened (stop.Number number) = Number number
widened stop.Memory = Memory
