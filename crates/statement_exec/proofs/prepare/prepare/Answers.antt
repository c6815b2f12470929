use Rattle.batch_meaning.specs.Working.{prepares}
use Rattle.batch_meaning.proofs.Composed.{does_bind, does_fail}
use Rattle.statement_exec.proofs.Preparing.{shaped_begun, shaped_bound}
use Rattle.statement_exec.proofs.Parts.{does_failed, does_read, does_read_on, does_result}
use Rattle.statement_exec.proofs.prepare.prepare.Goals as goal

pub returns-in_err-definitions-clause-does : goal.returns-in_err-definitions-clause-does
unfolding prepares
returns-in_err-definitions-clause-does g c = does_fail _ _ _ c.from_residual.ensures.0 c.from_residual.ensures.1 (rw c.requires.names at c.in_err-definitions.ensures.does)

pub returns-in-Ok-clause-does : goal.returns-in-Ok-clause-does
unfolding prepares
returns-in-Ok-clause-does g c = does_bind _ _ (rw c.requires.names at c.in_ok-definitions.ensures.does) (does_read_on _ _ (rw (c.in-Ok.is, c.as_slice.ensures.value) at c.bound_in.ensures.came) (does_result _ _ c.shaped.ensures))

pub returns-in-Err-clause-does : goal.returns-in-Err-clause-does
unfolding prepares
returns-in-Err-clause-does g c = does_bind _ _ (rw c.requires.names at c.in_ok-definitions.ensures.does) (does_failed _ _ (does_read _ _ (rw (c.in-Err.is, c.as_slice.ensures.value) at c.bound_in.ensures.came)))

pub returns-in-Ok-clause-begun : goal.returns-in-Ok-clause-begun
returns-in-Ok-clause-begun g c = shaped_begun _ _ c.in_ok-definitions.definitions.items c.in-Ok.of _ (rw c.in-Ok.is at c.bound_in.ensures.begun) c.shaped.ensures

pub returns-in-Ok-clause-bound : goal.returns-in-Ok-clause-bound
returns-in-Ok-clause-bound g c = shaped_bound c.in_ok-definitions.definitions.items c.args.session.now.vars c.args.statement.now _ _ (rw (c.in-Ok.is, c.as_slice.ensures.value, c.in_ok-definitions.ensures.vars) at c.bound_in.ensures.came) c.shaped.ensures
