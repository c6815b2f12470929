use Rattle.batch_meaning.specs.Working.{computes}
use Rattle.batch_meaning.proofs.Composed.{does_bind, does_fail}
use Rattle.statement_exec.proofs.Parts.{does_read}
use Rattle.statement_exec.proofs.working.compute.Goals as goal

pub returns-in_err-rows-clause-does : goal.returns-in_err-rows-clause-does
unfolding computes
returns-in_err-rows-clause-does g c = does_fail _ _ _ c.from_residual.ensures.0 c.from_residual.ensures.1 c.in_err-rows.ensures.does

pub returns-clause-does : goal.returns-clause-does
unfolding computes
returns-clause-does g c = does_bind _ _ c.in_ok-rows.ensures.does (does_read _ _ (rw (c.first_row.ensures, c.as_slice.ensures.value, c.vars.ensures.vars) at c.made_of.ensures.came))

pub returns-clause-fits : goal.returns-clause-fits
returns-clause-fits g c = rw c.vars.ensures.vars at c.made_of.ensures.fits
