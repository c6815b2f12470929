use Rattle.std.proofs.Common.{◌≡◌, ◌++◌, drop, length}
use Rattle.table_rows.specs.Rows.{values_at}
use Rattle.dml_exec.proofs.keys.values_at.Given as goal

-- the values so far, and those at the places that are left, are all values
abbrev pub invariant-loop-place : goal.invariant-loop-place
invariant-loop-place l = record {
  values : l.values.items ++ values_at (drop l.place-index l.places) l.row ≡ values_at l.places l.row;
  many : length l.values.items ≡ l.place-index;
}
