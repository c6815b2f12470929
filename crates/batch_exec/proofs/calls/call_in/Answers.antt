use Rattle.batch_meaning.proofs.Composed.{does_bind, does_fail}
use Rattle.batch_exec.proofs.Called.{does_bound_call}
use Rattle.batch_exec.proofs.calls.call_in.Goals as goal

pub returns-in_err-found-clause-does : goal.returns-in_err-found-clause-does
returns-in_err-found-clause-does g c = does_fail _ _ _ c.from_residual.ensures.0 c.from_residual.ensures.1 c.in_err-found.ensures.does

pub returns-clause-does : goal.returns-clause-does
returns-clause-does g c = does_bind _ _ c.in_ok-found.ensures.does (does_bound_call _ _ _ _ _ _ _ c.call_over.ensures.came)
