use Rattle.std.proofs.lemmas.Result.{err_from_is_err_and}
use Rattle.query_eval.specs.Found.{setting_at}
use Rattle.query_eval.proofs.Places.{where_fault, where_found}
use Rattle.query_eval.proofs.phases.rows_where.Goals as goal

pub returns-in_err-truths-in-Some : goal.returns-in_err-truths-in-Some
returns-in_err-truths-in-Some c =
    let p = err_from_is_err_and c.from_residual.result c.from_residual.ensures.1 in
    rw (p.1, p.2, c.in-Some.is)
    (where_fault (setting_at c.args.context.now) c.in-Some.test c.args.rows.items c.as_slice.result.now c.as_slice.ensures.value c.in_err-truths-in-Some.field-0.0 c.in_err-truths-in-Some.ensures)

pub returns-in_ok-rows_true-in-Some : goal.returns-in_ok-rows_true-in-Some
returns-in_ok-rows_true-in-Some c =
    rw c.in-Some.is
    (where_found (setting_at c.args.context.now) c.in-Some.test c.args.rows.items c.as_slice.result.now c.as_slice.ensures.value c.in_ok-truths-in-Some.truths.items c.in_ok-rows_true-in-Some.field-0.items
    c.in_ok-truths-in-Some.ensures c.in_ok-rows_true-in-Some.ensures)
