use Rattle.std.proofs.Common.{◌≡◌, ◌++◌, map, take}
use Rattle.batch_meaning.specs.Calls.{output_value}
use Rattle.batch_exec.proofs.returning.add_values.Given as goal

-- those so far
abbrev pub invariant-loop-output : goal.invariant-loop-output
invariant-loop-output l = l.values.items ≡ l.fn.values.items ++ map (output_value l.inner) (take l.output-index l.outputs)
