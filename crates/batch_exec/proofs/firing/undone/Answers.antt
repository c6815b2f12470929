use Rattle.batch_meaning.specs.Firing.{relaxes_then}
use Rattle.batch_meaning.proofs.Composed.{does_asks}
use Rattle.batch_exec.proofs.firing.undone.Goals as goal

pub returns-clause-does : goal.returns-clause-does
unfolding relaxes_then
returns-clause-does g c = does_asks c.relax_again.ensures.asked c.close_own.ensures.does
