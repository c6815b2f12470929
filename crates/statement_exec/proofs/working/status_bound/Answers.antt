use Rattle.batch_meaning.specs.Working.{status_bound}
use Rattle.batch_meaning.proofs.Composed.{does_bind, does_fail}
use Rattle.statement_exec.proofs.Parts.{does_result}
use Rattle.statement_exec.proofs.working.status_bound.Goals as goal

pub returns-in_err-rows-clause-does : goal.returns-in_err-rows-clause-does
unfolding status_bound
returns-in_err-rows-clause-does g c = does_fail _ _ _ c.from_residual.ensures.0 c.from_residual.ensures.1 c.in_err-rows.ensures.does

pub returns-clause-does : goal.returns-clause-does
unfolding status_bound
returns-clause-does g c = does_bind _ _ c.in_ok-rows.ensures.does (does_result _ _ (rw (c.first_row.ensures, c.as_slice.ensures.value) at c.status_of.ensures))
