use Rattle.std.proofs.Common.{◌≡◌, drop}
use Rattle.std.specs.Ordering.{eq_by_cmp}
use Rattle.value_types.specs.Order.{key_cmp}
use Rattle.table_rows.specs.Rows.{values_at}
use Rattle.table_rows.proofs.rows.has_values.Given as goal

-- the places and values that are left decide
abbrev pub invariant-loop-place : goal.invariant-loop-place
invariant-loop-place l = eq_by_cmp key_cmp (values_at (drop l.place-index l.places) l.row) l.rest ≡ eq_by_cmp key_cmp (values_at l.places l.row) l.wanted
