use Rattle.batch_meaning.specs.Working.{composes_bound}
use Rattle.batch_meaning.proofs.Composed.{does_bind, does_fail}
use Rattle.statement_exec.proofs.Parts.{does_on, does_result}
use Rattle.session_state.proofs.Stepping.{does_stepped}
use Rattle.statement_exec.proofs.working.compose_bound.Goals as goal

pub returns-in_err-rows-clause-does : goal.returns-in_err-rows-clause-does
unfolding composes_bound
returns-in_err-rows-clause-does g c = does_fail _ _ _ c.from_residual.ensures.0 c.from_residual.ensures.1 c.in_err-rows.ensures.does

pub returns-in_err-raised-clause-does : goal.returns-in_err-raised-clause-does
unfolding composes_bound
returns-in_err-raised-clause-does g c = does_bind _ _ c.in_ok-rows.ensures.does (does_fail _ _ _ c.from_residual-in_err-raised.ensures.0 c.from_residual-in_err-raised.ensures.1 (does_result _ _ (rw c.as_slice.ensures.value at c.in_err-raised.ensures)))

pub returns-clause-does : goal.returns-clause-does
unfolding composes_bound
returns-clause-does g c = does_bind _ _ c.in_ok-rows.ensures.does (does_on _ _ (rw c.as_slice.ensures.value at c.in_ok-raised.ensures) (does_stepped c.if_heard.ensures))
