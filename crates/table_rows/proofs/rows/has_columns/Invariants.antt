use Rattle.std.proofs.Common.{◌≡◌, drop}
use Rattle.table_rows.specs.Rows.{has_columns}
use Rattle.table_rows.proofs.rows.has_columns.Given as goal

-- the columns and values that are left decide
abbrev pub invariant-loop-column : goal.invariant-loop-column
invariant-loop-column l = has_columns (drop l.column-index l.columns) l.rest ≡ has_columns l.columns l.row
