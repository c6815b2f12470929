use Rattle.std.proofs.Common.{◌≡◌, drop}
use Rattle.constraint_check.specs.Local.{null_among}
use Rattle.constraint_check.proofs.local.null_in.Given as goal

-- the columns that are left decide
abbrev pub invariant-loop-column : goal.invariant-loop-column
invariant-loop-column l = null_among l.shape (drop l.column-index l.shape.columns) l.rest ≡ null_among l.shape l.shape.columns l.row
