-- Own: what answers say within this crate. An answer, seen by what it holds, is the outcome that is meant; want of memory
-- says nothing. Private contracts alone cite this.
use Rattle.std.specs.Prelude.{◌≡◌, Result, Ok, Err}
use Rattle.bound_tree.specs.Outcomes.{Outcome}
use Rattle.scalar_eval.specs.declared.fault.EvalFault.{EvalFault}
use Rattle.scalar_eval.specs.declared.fault.EvalFault.TheVariants as eval_fault
use Rattle.dml_exec.specs.declared.fault.Stop.{Stop}
use Rattle.dml_exec.specs.declared.fault.Stop.TheVariants.{Number, Memory}

abbrev pub FindsBy : {A B : Type 0} → (A → B) → Result A Stop → Outcome B → Type 0
FindsBy view (Ok x) outcome = outcome ≡ Ok (view x)
FindsBy view (Err (Number number)) outcome = outcome ≡ Err number
FindsBy view (Err Memory) outcome = Unit {0}

abbrev pub Finds : {A : Type 0} → Result A Stop → Outcome A → Type 0
Finds (Ok x) outcome = outcome ≡ Ok x
Finds (Err (Number number)) outcome = outcome ≡ Err number
Finds (Err Memory) outcome = Unit {0}

-- the fault that a caller sees, and within
abbrev pub widened : Stop → EvalFault
widened (Number number) = eval_fault.Number number
widened Memory = eval_fault.Memory

abbrev pub narrowed : EvalFault → Stop
narrowed (eval_fault.Number number) = Number number
narrowed (eval_fault.Named number name) = Number number
narrowed eval_fault.Memory = Memory
