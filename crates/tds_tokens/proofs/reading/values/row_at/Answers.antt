use Rattle.std.proofs.lemmas.Result.{err_from_is_err_and}
use Rattle.tds_tokens.specs.Reading.{values_at}
use Rattle.tds_tokens.proofs.Loops.{values_at-one, values_at-fails, values_at-end}
use Rattle.tds_tokens.proofs.reading.values.row_at.Goals as goal

pub returns-in_err-value : goal.returns-in_err-value
returns-in_err-value c =
    let p = err_from_is_err_and c.from_residual.result c.from_residual.ensures.1 in
    rw (p.1, p.2) (values_at-fails c.in_err-value.field-0.0 c.loop-column.values.items c.args.columns.now c.loop-column.column-index c.column-item.result c.loop-column.rest.now (values_at c.args.columns.now c.args.bytes.now) c.loop-column-test.true c.column-item.is c.in_err-value.ensures c.loop-column.invariant)

pub loop-column-preserved : goal.loop-column-preserved
loop-column-preserved c =
    rw c.in_ok-push.ensures.items (values_at-one c.loop-column.values.items c.args.columns.now c.loop-column.column-index c.column-item.result c.loop-column.rest.now c.in_ok-value.value c.in_ok-value.behind.now (values_at c.args.columns.now c.args.bytes.now) c.loop-column-test.true c.column-item.is c.in_ok-value.ensures c.loop-column.invariant)

pub returns : goal.returns
returns c =
    rw c.from.ensures (values_at-end c.loop-column.values.items c.args.columns.now c.loop-column.column-index c.loop-column.rest.now (values_at c.args.columns.now c.args.bytes.now) c.loop-column-test.false c.loop-column.invariant)
