use Rattle.join_rows.specs.Joined.{Row}
use Rattle.bound_tree.specs.Meaning as meaning
use Rattle.std.proofs.lemmas.Result.{err_from_is_err_and}
use Rattle.query_eval.specs.Found.{setting_at}
use Rattle.query_eval.proofs.Each.{each_fault, each_more}
use Rattle.query_eval.proofs.phases.truths.Goals as goal

pub returns-in_err-truth : goal.returns-in_err-truth
returns-in_err-truth c =
    let p = err_from_is_err_and c.from_residual-in_err-truth.result c.from_residual-in_err-truth.ensures.1 in
    rw (p.1, p.2)
    (each_fault (λ (row : Row). meaning.truth (setting_at c.args.context.now row) c.args.test.now)
    c.args.rows.now _ c.loop-row.truths.items c.loop-row.row-index c.row-item.result c.loop-row-test.true c.row-item.is c.loop-row.invariant
    c.in_err-truth.field-0.0 c.in_err-truth.ensures)

pub loop-row-preserved : goal.loop-row-preserved
loop-row-preserved c =
    rw c.in_ok-push.ensures.items
    (each_more (λ (row : Row). meaning.truth (setting_at c.args.context.now row) c.args.test.now)
    c.args.rows.now _ c.loop-row.truths.items c.loop-row.row-index c.row-item.result c.loop-row-test.true c.row-item.is c.loop-row.invariant
    c.in_ok-truth.field-0 c.in_ok-truth.ensures)
