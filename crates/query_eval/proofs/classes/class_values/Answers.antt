use Rattle.std.proofs.Common.{ℕ, get_or}
use Rattle.bound_tree.specs.Meaning as meaning
use Rattle.query_eval.specs.Found.{setting_at}
use Rattle.query_eval.specs.Places.{row_at}
use Rattle.query_eval.proofs.Places.{get_or_any}
use Rattle.query_eval.proofs.Each.{each_more}
use Rattle.query_eval.proofs.classes.class_values.Goals as goal

pub loop-place-preserved : goal.loop-place-preserved
loop-place-preserved c =
    let place = get_or c.args.class.now c.loop-place.place-index 0 in
    rw c.in_ok-push.ensures.items
    (each_more (λ (place : ℕ). meaning.value (setting_at c.args.context.now (row_at c.args.rows.now place)) c.args.expr.now)
    c.args.class.now _ c.loop-place.values.items c.loop-place.place-index place c.loop-place-test.true (get_or_any c.args.class.now c.loop-place.place-index 0 place c.loop-place-test.true) c.loop-place.invariant
    c.in_ok-value_of_row.field-0 c.in_ok-value_of_row.ensures)
