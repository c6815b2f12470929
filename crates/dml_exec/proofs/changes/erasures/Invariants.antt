use Rattle.std.proofs.Common.{◌≡◌, ◌++◌, drop, map}
use Rattle.dml_exec.specs.Planning.{erasure}
use Rattle.dml_exec.proofs.changes.erasures.Given as goal

-- those of the rows so far, and of those that are left
abbrev pub invariant-loop-row : goal.invariant-loop-row
invariant-loop-row l = l.changes.items ++ map (erasure l.table l.key) (drop l.row-index l.rows) ≡ map (erasure l.table l.key) l.rows
