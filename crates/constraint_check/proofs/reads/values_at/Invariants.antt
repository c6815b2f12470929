use Rattle.std.proofs.Common.{◌≡◌, ◌++◌, drop}
use Rattle.table_rows.specs.Rows.{values_at}
use Rattle.constraint_check.proofs.reads.values_at.Given as goal

-- the values, and those at the places that are left, are all values
abbrev pub invariant-loop-place : goal.invariant-loop-place
invariant-loop-place l = l.values.items ++ values_at (drop l.place-index l.places) l.row ≡ values_at l.places l.row
