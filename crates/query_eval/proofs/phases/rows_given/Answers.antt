use Rattle.std.proofs.lemmas.Result.{err_from_is_err_and}
use Rattle.bound_tree.specs.declared.query.BoundQuery.{out-BoundQuery}
use Rattle.query_eval.specs.Found.{setting_at}
use Rattle.query_eval.proofs.Steps.{all_given, items_stop, order_stop}
use Rattle.query_eval.proofs.phases.rows_given.Goals as goal

pub returns-in_err-pairs : goal.returns-in_err-pairs
returns-in_err-pairs c =
    let p = err_from_is_err_and c.from_residual-in_err-pairs.result c.from_residual-in_err-pairs.ensures.1 in
    rw (p.1, p.2)
    (items_stop (setting_at c.args.context.now) (out-BoundQuery c.args.query.now) c.args.joined.items c.in_ok-width.width c.in_ok-found.found.items c.in_ok-rows.rows.items c.in_ok-kept.kept.items
    (rw c.as_slice.ensures at c.in_ok-width.ensures) c.in_ok-found.ensures (rw (c.as_slice-groups.ensures, c.as_slice-sums.ensures) at c.in_ok-rows.ensures) c.in_ok-kept.ensures
    c.in_err-pairs.field-0.0 (rw c.as_slice-2.ensures at c.in_err-pairs.ensures))

pub returns-in_err-in_order : goal.returns-in_err-in_order
returns-in_err-in_order c =
    let p = err_from_is_err_and c.from_residual-in_err-in_order.result c.from_residual-in_err-in_order.ensures.1 in
    rw (p.1, p.2)
    (order_stop (setting_at c.args.context.now) (out-BoundQuery c.args.query.now) c.args.joined.items c.in_ok-width.width c.in_ok-found.found.items c.in_ok-rows.rows.items c.in_ok-kept.kept.items
    (rw c.as_slice.ensures at c.in_ok-width.ensures) c.in_ok-found.ensures (rw (c.as_slice-groups.ensures, c.as_slice-sums.ensures) at c.in_ok-rows.ensures) c.in_ok-kept.ensures
    c.in_ok-pairs.pairs.items (rw c.as_slice-2.ensures at c.in_ok-pairs.ensures)
    c.in_err-in_order.field-0.0 (rw c.as_slice-3.ensures at c.in_err-in_order.ensures))

pub returns : goal.returns
returns c =
    all_given (setting_at c.args.context.now) (out-BoundQuery c.args.query.now) c.args.joined.items c.in_ok-width.width c.in_ok-found.found.items c.in_ok-rows.rows.items c.in_ok-kept.kept.items
    (rw c.as_slice.ensures at c.in_ok-width.ensures) c.in_ok-found.ensures (rw (c.as_slice-groups.ensures, c.as_slice-sums.ensures) at c.in_ok-rows.ensures) c.in_ok-kept.ensures
    c.in_ok-pairs.pairs.items (rw c.as_slice-2.ensures at c.in_ok-pairs.ensures)
    c.in_ok-in_order.in_order.items c.top_of.result.items (rw c.as_slice-3.ensures at c.in_ok-in_order.ensures) c.top_of.ensures
