use Rattle.std.proofs.Common.{◌≡◌, drop}
use Rattle.std.specs.Prelude.{filter_map}
use Rattle.std.specs.Ordering.{eq_by_cmp}
use Rattle.value_types.specs.Order.{key_cmp}
use Rattle.tsql_tree.specs.Places.{place_in}
use Rattle.table_rows.specs.Rows.{values_at}
use Rattle.table_rows.proofs.rows.has_named.Given as goal

-- the names and values that are left decide
abbrev pub invariant-loop-name : goal.invariant-loop-name
invariant-loop-name l =
    eq_by_cmp key_cmp (values_at (filter_map (place_in l.columns) (drop l.name-index l.names)) l.row) l.rest
    ≡ eq_by_cmp key_cmp (values_at (filter_map (place_in l.columns) l.names) l.row) l.wanted
