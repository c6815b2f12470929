use Rattle.join_rows.specs.Joined.{Row}
use Rattle.bound_tree.specs.Meaning as meaning
use Rattle.query_eval.specs.Phases.{each}
use Rattle.std.proofs.lemmas.Result.{err_from_is_err_and}
use Rattle.query_eval.specs.Found.{setting_at}
use Rattle.query_eval.proofs.Each.{each_fault, each_more}
use Rattle.query_eval.proofs.classes.keys_of.Goals as goal

pub returns-in_err-key_of : goal.returns-in_err-key_of
returns-in_err-key_of c =
    let p = err_from_is_err_and c.from_residual-in_err-key_of.result c.from_residual-in_err-key_of.ensures.1 in
    rw (p.1, p.2)
    (each_fault (λ (row : Row). each (meaning.value (setting_at c.args.context.now row)) c.args.exprs.now)
    c.args.rows.now _ c.loop-row.keys.items c.loop-row.row-index c.row-item.result c.loop-row-test.true c.row-item.is c.loop-row.invariant
    c.in_err-key_of.field-0.0 c.in_err-key_of.ensures)

pub loop-row-preserved : goal.loop-row-preserved
loop-row-preserved c =
    rw c.in_ok-push.ensures.items
    (each_more (λ (row : Row). each (meaning.value (setting_at c.args.context.now row)) c.args.exprs.now)
    c.args.rows.now _ c.loop-row.keys.items c.loop-row.row-index c.row-item.result c.loop-row-test.true c.row-item.is c.loop-row.invariant
    c.in_ok-key_of.field-0 c.in_ok-key_of.ensures)
