use Rattle.std.proofs.Common.{refl}
use Rattle.batch_meaning.proofs.Composed.{does_over}
use Rattle.batch_exec.proofs.firing.close_own.Goals as goal

pub returns-in-Own-clause-does : goal.returns-in-Own-clause-does
returns-in-Own-clause-does g c = rw c.in-Own.is c.close.ensures.does

pub returns-in-Open-clause-does : goal.returns-in-Open-clause-does
returns-in-Open-clause-does g c = rw c.in-Open.is (does_over refl)

pub returns-in-Nowhere-clause-does : goal.returns-in-Nowhere-clause-does
returns-in-Nowhere-clause-does g c = rw c.in-Nowhere.is (does_over refl)
