use Rattle.std.proofs.Common.{true}
use Rattle.batch_meaning.specs.Cursors.{opens_cursor}
use Rattle.batch_meaning.proofs.Composed.{does_room}
use Rattle.statement_exec.proofs.CursorSteps.{answered_on, opens_fails, opens_on}
use Rattle.statement_exec.proofs.cursors.open_cursor.Goals as goal
use Rattle.statement_exec.proofs.BoundFirst.{bound_fails}

pub returns-in_err-bind_first-clause-does : goal.returns-in_err-bind_first-clause-does
unfolding opens_cursor
returns-in_err-bind_first-clause-does g c = bound_fails c.args.statement.now _ _ _ c.from_residual.ensures.0 c.from_residual.ensures.1 c.in_err-bind_first.ensures

pub returns-in_err-select-clause-does : goal.returns-in_err-select-clause-does
unfolding opens_cursor
returns-in_err-select-clause-does g c = answered_on c.args.statement.now _ c.in_ok-bind_first.ensures (opens_fails c.args.around.now c.args.statement.now c.args.name.now _ _ c.from_residual-in_err-select.ensures.0 c.from_residual-in_err-select.ensures.1 c.in_err-select.ensures.came)

pub returns-clause-does : goal.returns-clause-does
unfolding opens_cursor
returns-clause-does g c = answered_on c.args.statement.now _ c.in_ok-bind_first.ensures (does_room true (opens_on c.args.around.now c.args.statement.now c.args.name.now _ c.in_ok-select.ensures.came c.fill.ensures.does))
