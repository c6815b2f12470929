use Rattle.std.proofs.Common.{◌≡◌, rules}
use Rattle.table_names.specs.Contents.{distinct_onto}
use Rattle.binder.specs.Names as spec
use Rattle.table_names.proofs.Noted.{noted_more}
use Rattle.binder.proofs.names.note_initials.Goals as goal

pub loop-of-preserved : goal.loop-of-preserved
loop-of-preserved c =
    let noted : c.note_initial.new.names ≡ distinct_onto c.loop-of.names (spec.in_initial c.of-item.result) = search rules in
    noted_more spec.in_initial c.args.declarations.now c.loop-of.of-index c.of-item.result _ _ _ c.loop-of-test.true c.of-item.is noted c.loop-of.invariant
