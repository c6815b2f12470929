use Rattle.std.proofs.Common.{◌≡◌, map}
use Rattle.dml_exec.specs.Planning.{insertion}
use Rattle.dml_exec.proofs.changes.insertions.Given as goal

-- those of the rows so far
abbrev pub invariant-loop-row : goal.invariant-loop-row
invariant-loop-row l = l.changes.items ≡ map (insertion l.table l.key) l.yielded
