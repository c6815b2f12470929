use Rattle.batch_meaning.specs.Working.{selects}
use Rattle.batch_meaning.proofs.Composed.{does_bind, does_fail}
use Rattle.session_state.proofs.Assigning.{none_assigned}
use Rattle.statement_exec.proofs.Results.{answer_fits}
use Rattle.statement_exec.proofs.Parts.{does_read, does_read_on}
use Rattle.session_state.proofs.Stepping.{does_stepped}
use Rattle.statement_exec.proofs.query.select.Goals as goal

pub result_of-requires : goal.result_of-requires
result_of-requires g c = record { fit = answer_fits c.done_kind.result c.settings.result.no_count c.args.around.now c.answer.new.session c.args.session.now.vars c.args.shapes.now c.args.statement.now c.args.of.now c.args.query.now c.in_ok-rows.rows.items c.requires.bound c.in_ok-rows.ensures.vars c.requires.select c.requires.query c.in_ok-rows.ensures.answered }

pub returns-in_err-rows-clause-does : goal.returns-in_err-rows-clause-does
unfolding selects
returns-in_err-rows-clause-does g c = does_fail _ _ _ c.from_residual.ensures.0 c.from_residual.ensures.1 c.in_err-rows.ensures.does

pub returns-in_err-effect-clause-does : goal.returns-in_err-effect-clause-does
unfolding selects
returns-in_err-effect-clause-does g c = does_bind _ _ c.in_ok-rows.ensures.does (does_fail _ _ _ c.from_residual-in_err-effect.ensures.0 c.from_residual-in_err-effect.ensures.1 (does_read _ _ (rw (c.done_kind.ensures, c.settings.ensures) at c.in_err-effect.ensures.came)))

pub returns-clause-does : goal.returns-clause-does
unfolding selects
returns-clause-does g c = does_bind _ _ c.in_ok-rows.ensures.does (does_read_on _ _ (rw (c.done_kind.ensures, c.settings.ensures) at c.in_ok-effect.ensures.came) (does_stepped c.if_it_fits.ensures.came))

pub returns-clause-fits : goal.returns-clause-fits
returns-clause-fits g c = none_assigned _ _ _ c.in_ok-effect.ensures.none c.if_it_fits.ensures.same
