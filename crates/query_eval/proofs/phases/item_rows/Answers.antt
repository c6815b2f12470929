use Rattle.join_rows.specs.Joined.{Row}
use Rattle.bound_tree.specs.Meaning as meaning
use Rattle.query_eval.specs.Phases.{each}
use Rattle.std.proofs.lemmas.Result.{err_from_is_err_and}
use Rattle.query_eval.specs.Found.{setting_at}
use Rattle.query_eval.proofs.Each.{each_fault, each_more}
use Rattle.query_eval.proofs.phases.item_rows.Goals as goal

pub returns-in_err-item_row : goal.returns-in_err-item_row
returns-in_err-item_row c =
    let p = err_from_is_err_and c.from_residual-in_err-item_row.result c.from_residual-in_err-item_row.ensures.1 in
    rw (p.1, p.2)
    (each_fault (λ (row : Row). each (λ item. meaning.value (setting_at c.args.context.now row) item.expr) c.args.items.now)
    c.args.rows.now _ c.loop-row.found.items c.loop-row.row-index c.row-item.result c.loop-row-test.true c.row-item.is c.loop-row.invariant
    c.in_err-item_row.field-0.0 c.in_err-item_row.ensures)

pub loop-row-preserved : goal.loop-row-preserved
loop-row-preserved c =
    rw c.in_ok-push.ensures.items
    (each_more (λ (row : Row). each (λ item. meaning.value (setting_at c.args.context.now row) item.expr) c.args.items.now)
    c.args.rows.now _ c.loop-row.found.items c.loop-row.row-index c.row-item.result c.loop-row-test.true c.row-item.is c.loop-row.invariant
    c.in_ok-item_row.field-0 c.in_ok-item_row.ensures)
