use Rattle.std.proofs.Common.{◌≡◌, ◌+◌, ◌++◌, drop}
use Rattle.batch_exec.specs.Running.{arguments_from}
use Rattle.batch_exec.proofs.rpc.arguments_from.Given as goal

-- those so far, and those of the parameters that are left
abbrev pub invariant-loop-place : goal.invariant-loop-place
invariant-loop-place l = l.arguments.items ++ arguments_from (l.first + l.place) (drop l.place l.parameters) ≡ arguments_from l.first l.parameters
