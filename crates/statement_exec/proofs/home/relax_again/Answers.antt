use Rattle.std.proofs.Common.{refl}
use Rattle.batch_meaning.specs.Firing.{relaxes_then}
use Rattle.batch_meaning.proofs.Composed.{does_over, does_asks}
use Rattle.statement_exec.proofs.home.relax_again.Goals as goal

pub returns-clause-does : goal.returns-clause-does
unfolding relaxes_then
returns-clause-does g c = does_asks (rw c.in-Done.is at c.ask.ensures.asked) (does_over refl)
