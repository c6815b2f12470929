use Rattle.std.proofs.Common.{true, sym}
use Rattle.batch_meaning.specs.Databases.{is_database, no_database, uses_database}
use Rattle.session_state.proofs.Stepping.{stepped_no, stepped_room}
use Rattle.statement_exec.proofs.CursorSteps.{stepped_naming, stepped_on, stepped_unbound}
use Rattle.statement_exec.proofs.Using.{stepped_named}
use Rattle.statement_exec.proofs.databases.use_database.Goals as goal

pub returns-in_err-bind_first-clause-came : goal.returns-in_err-bind_first-clause-came
unfolding uses_database
returns-in_err-bind_first-clause-came c = stepped_unbound c.args.statement.now _ _ _ c.from_residual.ensures.0 c.from_residual.ensures.1 c.in_err-bind_first.ensures

pub returns-then-not-is_database-clause-came : goal.returns-then-not-is_database-clause-came
unfolding uses_database
returns-then-not-is_database-clause-came c = stepped_on c.args.statement.now _ c.in_ok-bind_first.ensures
    (stepped_room true (stepped_no (is_database c.args.name.now) _ _ (sym c.if-not-is_database.ensures) (stepped_naming no_database c.args.name.now _ c.naming.ensures)))

pub returns-clause-came : goal.returns-clause-came
unfolding uses_database
returns-clause-came c = stepped_on c.args.statement.now _ c.in_ok-bind_first.ensures (stepped_named c.args.around.now c.args.statement.now c.args.name.now c.if-not-is_database.ensures c.tell.ensures.came)
