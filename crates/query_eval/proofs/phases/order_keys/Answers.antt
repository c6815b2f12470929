use Rattle.join_rows.specs.Joined.{Row}
use Rattle.query_eval.specs.Phases.{each, order_value}
use Rattle.std.proofs.lemmas.Result.{err_from_is_err_and}
use Rattle.query_eval.specs.Found.{setting_at}
use Rattle.query_eval.proofs.Each.{each_fault, each_more}
use Rattle.query_eval.proofs.phases.order_keys.Goals as goal

pub returns-in_err-order_key : goal.returns-in_err-order_key
returns-in_err-order_key c =
    let p = err_from_is_err_and c.from_residual-in_err-order_key.result c.from_residual-in_err-order_key.ensures.1 in
    rw (p.1, p.2)
    (each_fault (λ (pair : Row × Row). each (λ by. order_value (setting_at c.args.context.now) pair by.key) c.args.order.now)
    c.args.pairs.now _ c.loop-pair.keys.items c.loop-pair.pair-index c.pair-item.result c.loop-pair-test.true c.pair-item.is c.loop-pair.invariant
    c.in_err-order_key.field-0.0 c.in_err-order_key.ensures)

pub loop-pair-preserved : goal.loop-pair-preserved
loop-pair-preserved c =
    rw c.in_ok-push.ensures.items
    (each_more (λ (pair : Row × Row). each (λ by. order_value (setting_at c.args.context.now) pair by.key) c.args.order.now)
    c.args.pairs.now _ c.loop-pair.keys.items c.loop-pair.pair-index c.pair-item.result c.loop-pair-test.true c.pair-item.is c.loop-pair.invariant
    c.in_ok-order_key.field-0 c.in_ok-order_key.ensures)
