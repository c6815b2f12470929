use Rattle.std.proofs.Common.{◌≡◌, ap, ℕ, ◌+◌, List, slice_get, Some, None, rules}
use Rattle.value_types.specs.declared.table_name.TableName.{TableName}
use Rattle.table_rows.specs.Rows.{index_columns, index_places}
use Rattle.dml_exec.specs.Planning.{row_changes_of}
use Rattle.dml_exec.proofs.IndexSteps.{key_bounds, part_keyed, parts_end, parts_next}
use Rattle.dml_exec.proofs.index.index_deeds.Goals as goal

pub returns-in_default : goal.returns-in_default
returns-in_default c =
    let none : slice_get (index_columns c.args.shape.now) c.loop-place.place ≡ None = search rules in
    parts_end c.args.shape.now (row_changes_of c.args.rows.now) c.loop-place.place c.loop-place.changes.items c.loop-place.invariant none

pub add_deeds-requires : goal.add_deeds-requires
add_deeds-requires c =
    let is : slice_get (index_columns c.args.shape.now) c.loop-place.place ≡ Some c.in-Some.names.now = search rules in
    let bounds = key_bounds (index_places c.args.shape.now c.in-Some.names.now) (part_keyed c.args.shape.now c.loop-place.place c.in-Some.names.now c.requires.keyed is) in
    rw (c.as_slice.ensures.value, c.in_ok-places.ensures) record { not_empty = bounds.0; within_limit = bounds.1 }

pub loop-place-preserved : goal.loop-place-preserved
loop-place-preserved c =
    let is : slice_get (index_columns c.args.shape.now) c.loop-place.place ≡ Some c.in-Some.names.now = search rules in
    parts_next c.args.shape.now (row_changes_of c.args.rows.now) c.loop-place.place c.loop-place.changes.items c.loop-place.invariant c.in-Some.names.now _ _ _ is
    (ap (λ (n : List ℕ). let named : TableName = record { object = n; part = c.loop-place.place + 1 } in named) c.in_ok-copy.ensures) c.in_ok-places.ensures (rw c.as_slice.ensures.value at c.in_ok-add_deeds.ensures)
