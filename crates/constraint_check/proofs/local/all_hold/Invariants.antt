use Rattle.std.proofs.Common.{◌≡◌, drop}
use Rattle.constraint_check.specs.Local.{broken_among, first_given}
use Rattle.constraint_check.proofs.local.all_hold.Given as goal

-- the rows that are left decide
abbrev pub invariant-loop-row : goal.invariant-loop-row
invariant-loop-row l = first_given (broken_among l.checks l.tests) (drop l.row-index l.rows) ≡ first_given (broken_among l.checks l.tests) l.rows
