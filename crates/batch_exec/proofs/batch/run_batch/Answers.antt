use Rattle.batch_meaning.specs.Meaning.{batch, ends, ends_doomed}
use Rattle.batch_meaning.proofs.Composed.{does_leave, does_makes, does_then}
use Rattle.batch_exec.proofs.batch.run_batch.Goals as goal

pub returns-in_err-exit-clause-does : goal.returns-in_err-exit-clause-does
unfolding batch
returns-in_err-exit-clause-does g c = does_makes (rw c.requires.vars at c.begin_batch.ensures) (does_leave _ _ _ c.from_residual.ensures.0 c.in_err-exit.ensures.does)

pub returns-clause-does : goal.returns-clause-does
unfolding batch ends ends_doomed
returns-clause-does g c = does_makes (rw c.requires.vars at c.begin_batch.ensures) (does_then _ _ c.in_ok-exit.ensures.does c.end.ensures.does)
