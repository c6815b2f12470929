use Rattle.std.proofs.Common.{◌≡◌, ◌++◌, map, take}
use Rattle.batch_exec.proofs.returning.add_names.Given as goal

-- those so far
abbrev pub invariant-loop-output : goal.invariant-loop-output
invariant-loop-output l = l.names.items ≡ l.fn.names.items ++ map (λ output. output.variable) (take l.output-index l.outputs)
