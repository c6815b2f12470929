use Rattle.std.proofs.Common.{◌≡◌, drop}
use Rattle.constraint_check.specs.Local.{first_given, null_fault}
use Rattle.constraint_check.proofs.local.all_known.Given as goal

-- the rows that are left decide
abbrev pub invariant-loop-row : goal.invariant-loop-row
invariant-loop-row l = first_given (null_fault l.shape) (drop l.row-index l.rows) ≡ first_given (null_fault l.shape) l.rows
