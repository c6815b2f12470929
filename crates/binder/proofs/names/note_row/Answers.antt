use Rattle.std.proofs.Common.{◌≡◌, rules}
use Rattle.table_names.specs.Contents.{distinct_onto, in_expr}
use Rattle.table_names.proofs.Noted.{noted_more}
use Rattle.binder.proofs.names.note_row.Goals as goal

pub loop-expr-preserved : goal.loop-expr-preserved
loop-expr-preserved c =
    let noted : c.note_expr.new.self ≡ distinct_onto c.loop-expr.names (in_expr c.expr-item.result) = search rules in
    noted_more in_expr c.args.row.now c.loop-expr.expr-index c.expr-item.result _ _ _ c.loop-expr-test.true c.expr-item.is noted c.loop-expr.invariant
