use Rattle.std.proofs.Common.{◌≡◌, ◌++◌}
use Rattle.batch_meaning.specs.Calls.{parameter_vars}
use Rattle.batch_exec.specs.Running.{AreTyped}
use Rattle.batch_exec.proofs.calls.parameter_vars.Given as goal

-- those that stand, and what is left of parameters and values
abbrev pub invariant-loop-value : goal.invariant-loop-value
invariant-loop-value l = record {
  goes : parameter_vars l.parameters l.fn.values.items ≡ l.vars ++ parameter_vars l.rest l.value-iterator.rest.items;
  typed : AreTyped l.rest l.value-iterator.rest.items;
}
