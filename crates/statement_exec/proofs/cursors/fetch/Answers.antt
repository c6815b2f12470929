use Rattle.std.proofs.Common.{◌≡◌, true, None, Ok, Err, Some, ap, sym}
use Rattle.session_cursors.specs.Cursors as list
use Rattle.batch_meaning.specs.Cursors.{fetches_cursor}
use Rattle.batch_meaning.specs.Values.{assigned_to}
use Rattle.statement_exec.proofs.CursorSteps.{fetches_fails, fetches_on, stepped_answered, stepped_fault, stepped_on, stepped_unbound}
use Rattle.session_state.proofs.Stepping.{stepped_made, stepped_makes, stepped_room}
use Rattle.statement_exec.proofs.cursors.fetch.Goals as goal

pub returns-in_err-bind_first-clause-came : goal.returns-in_err-bind_first-clause-came
unfolding fetches_cursor
returns-in_err-bind_first-clause-came c = stepped_unbound c.args.statement.now _ _ _ c.from_residual.ensures.0 c.from_residual.ensures.1 c.in_err-bind_first.ensures

pub returns-in_err-check_count-clause-came : goal.returns-in_err-check_count-clause-came
unfolding fetches_cursor
returns-in_err-check_count-clause-came c = stepped_on c.args.statement.now _ c.in_ok-bind_first.ensures (stepped_room true (fetches_fails c.args.session.now c.args.name.now c.args.variables.now _ _ _ c.from_residual-in_err-check_count.ensures.0 c.from_residual-in_err-check_count.ensures.1 c.in_err-check_count.ensures))

pub pass_row-requires : goal.pass_row-requires
pass_row-requires c = record { fits = rw c.vars.ensures.vars at c.sets_of-sets.ensures.fits }

pub returns-in-Ok-Some-clause-came : goal.returns-in-Ok-Some-clause-came
unfolding fetches_cursor
returns-in-Ok-Some-clause-came c =
    let next : Ok (Some c.in-Ok-Some.row.now) ≡ list.next_of c.args.name.now c.args.session.now.cursors = rw (c.in-Ok-Some.is, c.in-Ok-Some.field-0-is, c.cursors.ensures) at c.peek.ensures in
    stepped_on c.args.statement.now _ c.in_ok-bind_first.ensures (stepped_room true (fetches_on c.args.session.now c.args.name.now c.args.variables.now _ c.in_ok-check_count.ensures
    (stepped_answered c.args.name.now _ (list.next_of c.args.name.now c.args.session.now.cursors) (Some c.in-Ok-Some.row.now) (sym next)
    (c.pass_row.ensures.came (assigned_to c.args.session.now.vars c.args.variables.now c.in-Ok-Some.row.now) (rw (c.vars.ensures.vars, c.as_slice.ensures) at c.sets_of-sets.ensures.came)))))

pub returns-in-Ok-None-clause-came : goal.returns-in-Ok-None-clause-came
unfolding fetches_cursor
returns-in-Ok-None-clause-came c =
    let next : Ok None ≡ list.next_of c.args.name.now c.args.session.now.cursors = rw (c.in-Ok-None.is, c.in-Ok-None.field-0-is, c.cursors.ensures) at c.peek.ensures in
    stepped_on c.args.statement.now _ c.in_ok-bind_first.ensures (stepped_room true (fetches_on c.args.session.now c.args.name.now c.args.variables.now _ c.in_ok-check_count.ensures
    (stepped_answered c.args.name.now _ (list.next_of c.args.name.now c.args.session.now.cursors) None (sym next) (stepped_makes c.tell_fetch.ensures (stepped_made (ap Ok c.none.ensures))))))

pub returns-in-Err-clause-came : goal.returns-in-Err-clause-came
unfolding fetches_cursor
returns-in-Err-clause-came c =
    let next : Err c.in-Err.fault ≡ list.next_of c.args.name.now c.args.session.now.cursors = rw (c.in-Err.is, c.cursors.ensures) at c.peek.ensures in
    stepped_on c.args.statement.now _ c.in_ok-bind_first.ensures (stepped_room true (fetches_on c.args.session.now c.args.name.now c.args.variables.now _ c.in_ok-check_count.ensures
    (stepped_fault c.args.name.now _ (list.next_of c.args.name.now c.args.session.now.cursors) c.in-Err.fault c.refused.result (sym next) c.refused.ensures)))
