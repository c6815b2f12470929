use Rattle.std.proofs.lemmas.Result.{err_from_is_err_and}
use Rattle.scalar_eval.specs.Scopes.{inner_rows, values_of}
use Rattle.query_eval.specs.Found.{stock_of}
use Rattle.query_eval.proofs.Inner.{answer_fault, answer_found}
use Rattle.query_eval.proofs.answering.+inner_queries.Goals as goal

pub query_rows-returns-in_err-inner : goal.query_rows-returns-in_err-inner
query_rows-returns-in_err-inner t c =
    let source = c.args.source.now in
    let p = err_from_is_err_and c.from_residual.result c.from_residual.ensures.1 in
    rw (p.1, p.2)
    (answer_fault (values_of source.vars.now) source.system.now c.args.query.now (stock_of source.images.now c.args.left.now) c.in_err-inner.field-0.0
    (rw c.as_slice.ensures at c.in_err-inner.ensures))

pub query_rows-returns : goal.query_rows-returns
query_rows-returns t c =
    let source = c.args.source.now in
    rw (answer_found (values_of source.vars.now) source.system.now c.args.query.now (stock_of source.images.now c.args.left.now) (inner_rows c.in_ok-inner.inner.items)
    (stock_of source.images.now c.inner_tables.new.left) (rw c.as_slice.ensures at c.in_ok-inner.ensures))
    (rw c.as_slice-2.ensures.value at c.own_rows.ensures)
