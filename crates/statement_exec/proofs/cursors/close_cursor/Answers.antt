use Rattle.std.proofs.Common.{true, Ok, ap, sym, ◌∙◌}
use Rattle.session_cursors.specs.Cursors as list
use Rattle.batch_meaning.specs.Cursors.{closes_cursor}
use Rattle.statement_exec.proofs.CursorSteps.{shuts_same, stepped_answered, stepped_fault, stepped_kept, stepped_on, stepped_unbound}
use Rattle.session_state.proofs.Stepping.{stepped_made, stepped_makes, stepped_room}
use Rattle.statement_exec.proofs.cursors.close_cursor.Goals as goal

pub returns-in_err-bind_first-clause-came : goal.returns-in_err-bind_first-clause-came
unfolding closes_cursor
returns-in_err-bind_first-clause-came c = stepped_unbound c.args.statement.now _ _ _ c.from_residual.ensures.0 c.from_residual.ensures.1 c.in_err-bind_first.ensures

pub returns-in-Ok-clause-came : goal.returns-in-Ok-clause-came
unfolding closes_cursor
returns-in-Ok-clause-came c = stepped_on c.args.statement.now _ c.in_ok-bind_first.ensures (stepped_room true (stepped_answered c.args.name.now _ (list.close_answer c.args.name.now c.args.session.now.cursors) tt (sym c.close_cursor.ensures.came ∙ c.in-Ok.is)
    (stepped_makes c.close_cursor.ensures.closed (stepped_made (ap Ok c.none.ensures)))))

pub returns-in-Err-clause-came : goal.returns-in-Err-clause-came
unfolding closes_cursor
returns-in-Err-clause-came c = stepped_on c.args.statement.now _ c.in_ok-bind_first.ensures (stepped_room true
    (stepped_kept (c.close_cursor.ensures.closed ∙ shuts_same c.args.name.now c.in-Err.fault c.args.session.now (sym c.close_cursor.ensures.came ∙ c.in-Err.is))
    (stepped_fault c.args.name.now _ (list.close_answer c.args.name.now c.args.session.now.cursors) c.in-Err.fault c.refused.result (sym c.close_cursor.ensures.came ∙ c.in-Err.is) c.refused.ensures)))
