use Rattle.std.proofs.Common.{true, false, Ok, Err, ap, sym}
use Rattle.batch_meaning.specs.Transactions.{begins_transaction}
use Rattle.batch_meaning.proofs.Composed.{does_makes, does_room}
use Rattle.statement_exec.proofs.Parts.{does_made}
use Rattle.statement_exec.proofs.BoundFirst.{bound_fails, bound_on, does_go}
use Rattle.batch_exec.proofs.TxnSteps.{begins_closed, begins_inner, begins_most}
use Rattle.batch_exec.proofs.transactions.begin_transaction.Goals as goal

pub returns-in_err-bind_first-clause-does : goal.returns-in_err-bind_first-clause-does
unfolding begins_transaction
returns-in_err-bind_first-clause-does g c = bound_fails c.args.statement.now _ _ _ c.from_residual.ensures.0 c.from_residual.ensures.1 c.in_err-bind_first.ensures

pub returns-then-not-in_transaction-clause-does : goal.returns-then-not-in_transaction-clause-does
unfolding begins_transaction
returns-then-not-in_transaction-clause-does g c = bound_on c.args.statement.now _ c.in_ok-bind_first.ensures (does_go _ _ (begins_closed _ c.args.session.now (sym c.if-not-in_transaction.ensures)) c.begin_outermost.ensures.does)

pub returns-then-is_nested_most-clause-does : goal.returns-then-is_nested_most-clause-does
unfolding begins_transaction
returns-then-is_nested_most-clause-does g c = bound_on c.args.statement.now _ c.in_ok-bind_first.ensures (does_go _ _ (begins_most _ c.args.session.now (sym c.if-not-in_transaction.ensures) (sym c.if-is_nested_most.ensures)) (does_room true (does_made (ap Err c.plain.ensures))))

pub open-requires-clause-number : goal.open-requires-clause-number
open-requires-clause-number g c = c.in-Ok.ensures.number

pub returns-in_default-clause-does : goal.returns-in_default-clause-does
unfolding begins_transaction
returns-in_default-clause-does g c = bound_on c.args.statement.now _ c.in_ok-bind_first.ensures (does_room false (does_made (ap Err c.no_memory.ensures)))

pub returns-clause-does : goal.returns-clause-does
unfolding begins_transaction
returns-clause-does g c =
    let named = c.in-Ok.ensures.name in
    bound_on c.args.statement.now _ c.in_ok-bind_first.ensures (does_go _ _ (begins_inner _ c.args.session.now (sym c.if-not-in_transaction.ensures) (sym c.if-is_nested_most.ensures)) (does_room true (does_makes (rw named at c.open.ensures) (does_made (ap Ok c.none.ensures)))))
