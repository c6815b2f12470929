-- Own: what answers say within this crate. An answer, seen by what it holds, is the outcome that is
-- meant; want of memory says nothing. Private contracts alone cite this.
use Rattle.std.specs.Prelude.{◌≡◌, List, drop, Result, Ok, Err}
use Rattle.bound_tree.specs.Outcomes.{Outcome, overflow}
use Rattle.bound_tree.specs.Setting.{Setting}
use Rattle.join_rows.specs.Joined.{Row}
use Rattle.join_rows.specs.declared.fault.JoinFault.{JoinFault}
use Rattle.join_rows.specs.declared.fault.JoinFault.TheVariants as join_fault
use Rattle.group_rows.specs.declared.fault.GroupFault.{GroupFault}
use Rattle.group_rows.specs.declared.fault.GroupFault.TheVariants as group_fault
use Rattle.scalar_eval.specs.Scopes.{inner_rows, values_of}
use Rattle.scalar_eval.specs.declared.fault.EvalFault.{EvalFault}
use Rattle.scalar_eval.specs.declared.fault.EvalFault.TheVariants as eval_fault
use Rattle.query_eval.specs.declared.context.Context.{Context}
use Rattle.query_eval.specs.declared.fault.Stop.{Stop}
use Rattle.query_eval.specs.declared.fault.Stop.TheVariants.{Number, Memory}
use Rattle.query_eval.specs.declared.joining.Left.{Left}
use Rattle.query_eval.specs.Joining.{Stock, pairs_spent}

-- ---- answers

abbrev pub FindsBy : {A B : Type 0} → (A → B) → Result A Stop → Outcome B → Type 0
FindsBy view (Ok x) outcome = outcome ≡ Ok (view x)
FindsBy view (Err (Number number)) outcome = outcome ≡ Err number
FindsBy view (Err Memory) outcome = Unit {0}

abbrev pub Finds : {A : Type 0} → Result A Stop → Outcome A → Type 0
Finds (Ok x) outcome = outcome ≡ Ok x
Finds (Err (Number number)) outcome = outcome ≡ Err number
Finds (Err Memory) outcome = Unit {0}

-- ---- faults

abbrev pub of_group : GroupFault → Stop
of_group group_fault.Overflow = Number overflow
of_group group_fault.Memory = Memory

abbrev pub of_join : JoinFault Stop → Stop
of_join (join_fault.Test stop) = stop
of_join join_fault.Spent = Number pairs_spent
of_join join_fault.Memory = Memory

-- the fault that a caller sees
abbrev pub widened : Stop → EvalFault
widened (Number number) = eval_fault.Number number
widened Memory = eval_fault.Memory

-- ---- what is read

-- what an expression reads at a row
abbrev pub setting_at : Context → Row → Setting
setting_at context row = record {
  row = row;
  vars = values_of context.vars.now;
  system = context.system.now;
  inner = inner_rows context.inner.now;
}

-- what is left of images, some of which were read, and of the budget
abbrev pub stock_of : List (List Row) → Left → Stock
stock_of images left = record { images = drop left.read images; budget = left.budget }
