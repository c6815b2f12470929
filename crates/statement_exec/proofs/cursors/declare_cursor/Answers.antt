use Rattle.std.proofs.Common.{◌≡◌, ℕ, List, true, false, Err, Ok, ap}
use Rattle.tsql_tree.specs.declared.query.Select.{Select}
use Rattle.session_cursors.specs.Cursors as list
use Rattle.batch_meaning.specs.Cursors.{declares_cursor}
use Rattle.statement_exec.proofs.CursorSteps.{given_refused, stepped_answered, stepped_kept, stepped_on, stepped_unanswered, stepped_unbound}
use Rattle.session_state.proofs.Stepping.{stepped_made, stepped_makes, stepped_room}
use Rattle.statement_exec.proofs.cursors.declare_cursor.Goals as goal

pub returns-in_err-bind_first-clause-came : goal.returns-in_err-bind_first-clause-came
unfolding declares_cursor
returns-in_err-bind_first-clause-came c = stepped_unbound c.args.statement.now _ _ _ c.from_residual.ensures.0 c.from_residual.ensures.1 c.in_err-bind_first.ensures

pub returns-in_default-clause-came : goal.returns-in_default-clause-came
unfolding declares_cursor
returns-in_default-clause-came c = stepped_on c.args.statement.now _ c.in_ok-bind_first.ensures (stepped_room false (stepped_made (ap Err c.no_memory.ensures)))

pub returns-in-Ok-declare_cursor-clause-came : goal.returns-in-Ok-declare_cursor-clause-came
unfolding declares_cursor
returns-in-Ok-declare_cursor-clause-came c =
    let named : c.in-Ok.kept ≡ c.args.name.now = ap (λ (kept : List ℕ × Select). kept.0) c.in-Ok.ensures in
    let selected : c.in-Ok.select ≡ c.args.select.now = ap (λ (kept : List ℕ × Select). kept.1) c.in-Ok.ensures in
    stepped_on c.args.statement.now _ c.in_ok-bind_first.ensures (stepped_room true (stepped_answered c.args.name.now _ _ tt (rw (c.in-Ok-declare_cursor.is, named) at c.declare_cursor.ensures.came) (stepped_makes (rw (c.in-Ok-declare_cursor.is, named, selected) at c.declare_cursor.ensures.declared) (stepped_made (ap Ok c.none.ensures)))))

pub returns-in-Err-clause-came : goal.returns-in-Err-clause-came
unfolding declares_cursor
returns-in-Err-clause-came c =
    let named : c.in-Ok.kept ≡ c.args.name.now = ap (λ (kept : List ℕ × Select). kept.0) c.in-Ok.ensures in
    stepped_on c.args.statement.now _ c.in_ok-bind_first.ensures (stepped_kept (rw c.in-Err.is at c.declare_cursor.ensures.kept)
    (stepped_unanswered c.args.name.now _ (list.declare_answer c.args.name.now c.args.session.now.cursors) c.refused.result (given_refused c.args.name.now c.in-Err.fault _ _ (rw (c.in-Err.is, named) at c.declare_cursor.ensures.came) c.refused.ensures)))
