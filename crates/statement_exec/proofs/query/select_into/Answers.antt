use Rattle.std.proofs.Common.{[], Ok, length, subst}
use Rattle.step_model.specs.Ranges.{Rows}
use Rattle.batch_meaning.specs.Asking.{with_room}
use Rattle.batch_meaning.specs.Values.{rows_assigned}
use Rattle.batch_meaning.specs.Working.{assigns_rows, selects_into}
use Rattle.batch_meaning.proofs.Composed.{does_bind, does_fail, does_reads}
use Rattle.session_state.specs.Parts.{Stepped}
use Rattle.session_state.proofs.Stepping.{does_stepped}
use Rattle.statement_exec.proofs.query.select_into.Goals as goal

pub returns-in_err-rows-clause-does : goal.returns-in_err-rows-clause-does
unfolding selects_into
returns-in_err-rows-clause-does g c = does_fail _ _ _ c.from_residual.ensures.0 c.from_residual.ensures.1 c.in_err-rows.ensures.does

pub returns-clause-does : goal.returns-clause-does
unfolding selects_into
returns-clause-does g c =
    let came = subst (λ (rows : Rows). Stepped (with_room (assigns_rows (length rows) (rows_assigned c.answer.new.session.vars c.args.places.now [] rows))) c.answer.new.session (Ok c.assign_rows.result) c.assign_rows.new.session) c.as_slice.ensures.value c.assign_rows.ensures.came in
    does_bind _ _ c.in_ok-rows.ensures.does (does_reads (does_stepped came))
