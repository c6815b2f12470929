use Rattle.batch_meaning.specs.Cursors.{fills_with}
use Rattle.batch_meaning.proofs.Composed.{does_bind, does_fail}
use Rattle.statement_exec.proofs.CursorSteps.{rows_kinds}
use Rattle.statement_exec.proofs.Results.{answer_typed}
use Rattle.session_state.proofs.Stepping.{does_stepped}
use Rattle.statement_exec.proofs.cursors.fill_with.Goals as goal

pub keep_rows-requires : goal.keep_rows-requires
keep_rows-requires g c = record { typed = rows_kinds _ _ (answer_typed c.args.around.now c.answer.new.session c.args.session.now.vars c.args.shapes.now c.args.select.now c.args.of.now c.args.query.now c.in_ok-rows.rows.items c.requires.bound c.in_ok-rows.ensures.vars c.requires.select c.requires.query c.in_ok-rows.ensures.answered) }

pub returns-in_err-rows-clause-does : goal.returns-in_err-rows-clause-does
unfolding fills_with
returns-in_err-rows-clause-does g c = does_fail _ _ _ c.from_residual.ensures.0 c.from_residual.ensures.1 c.in_err-rows.ensures.does

pub returns-clause-does : goal.returns-clause-does
unfolding fills_with
returns-clause-does g c = does_bind _ _ c.in_ok-rows.ensures.does (does_stepped c.keep_rows.ensures.came)
