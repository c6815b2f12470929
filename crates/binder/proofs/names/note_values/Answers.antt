use Rattle.std.proofs.Common.{◌≡◌, rules}
use Rattle.table_names.specs.Contents.{distinct_onto}
use Rattle.binder.specs.Names as spec
use Rattle.table_names.proofs.Noted.{noted_more}
use Rattle.binder.proofs.names.note_values.Goals as goal

pub loop-row-preserved : goal.loop-row-preserved
loop-row-preserved c =
    let noted : c.note_row.new.names ≡ distinct_onto c.loop-row.names (spec.in_row c.row-item.result) = search rules in
    noted_more spec.in_row c.args.rows.now c.loop-row.row-index c.row-item.result _ _ _ c.loop-row-test.true c.row-item.is noted c.loop-row.invariant
