use Rattle.std.proofs.Common.{◌≡◌, ◌++◌, drop}
use Rattle.dml_exec.proofs.images.copied.Given as goal

-- what is copied, and what is left, are all
abbrev pub invariant-loop-row : goal.invariant-loop-row
invariant-loop-row l = l.copies.items ++ drop l.row-index l.rows ≡ l.rows
