use Rattle.std.proofs.lemmas.Result.{err_from_is_err_and}
use Rattle.tds_tokens.specs.Reading.{times, column_at}
use Rattle.tds_tokens.proofs.Loops.{times-one, times-fails, times-end}
use Rattle.tds_tokens.proofs.reading.columns.columns_of.Goals as goal

pub returns-in_err-column : goal.returns-in_err-column
returns-in_err-column c =
    let p = err_from_is_err_and c.from_residual.result c.from_residual.ensures.1 in
    rw (p.1, p.2) (times-fails c.in_err-column.field-0.0 column_at c.loop.columns.items c.args.count c.loop.counter c.loop.rest.now (times c.args.count column_at c.args.bytes.now) c.loop-test.true c.in_err-column.ensures c.loop.invariant)

pub loop-preserved : goal.loop-preserved
loop-preserved c =
    rw c.in_ok-push.ensures.items (times-one column_at c.loop.columns.items c.args.count c.loop.counter c.loop.rest.now c.in_ok-column.column c.in_ok-column.behind.now (times c.args.count column_at c.args.bytes.now) c.loop-test.true c.in_ok-column.ensures c.loop.invariant)

pub returns : goal.returns
returns c =
    times-end column_at c.loop.columns.items c.args.count c.loop.counter c.loop.rest.now (times c.args.count column_at c.args.bytes.now) c.loop-test.false c.loop.invariant
