use Rattle.std.proofs.Common.{◌≡◌, rules}
use Rattle.table_names.specs.Contents.{distinct_onto}
use Rattle.binder.specs.Names as spec
use Rattle.table_names.proofs.Noted.{noted_more}
use Rattle.binder.proofs.names.note_sets.Goals as goal

pub loop-set-preserved : goal.loop-set-preserved
loop-set-preserved c =
    let noted : c.note_expr.new.self ≡ distinct_onto c.loop-set.names (spec.in_set c.set-item.result) = search rules in
    noted_more spec.in_set c.args.sets.now c.loop-set.set-index c.set-item.result _ _ _ c.loop-set-test.true c.set-item.is noted c.loop-set.invariant
