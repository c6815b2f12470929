use Rattle.std.proofs.Common.{◌≡◌, ◌++◌, List, drop}
use Rattle.tsql_tree.specs.declared.definition.Definition.{Definition}
use Rattle.statement_exec.specs.Slots.{AreSlots}
use Rattle.statement_exec.proofs.Slots.{fires_at}
use Rattle.statement_exec.proofs.fired.take_fired.Given as goal

-- none but triggers were taken; those so far, and those at the places that are left, are all
abbrev pub invariant-loop-place : goal.invariant-loop-place
invariant-loop-place l = record {
  slots : (definitions : List Definition) → AreSlots l.initial.slots definitions → AreSlots l.slots definitions;
  fires : (definitions : List Definition) → AreSlots l.initial.slots definitions → l.fires.items ++ fires_at l.around definitions (drop l.place-index l.places) ≡ fires_at l.around definitions l.places;
}
