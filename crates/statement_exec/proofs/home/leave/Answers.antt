use Rattle.std.proofs.Common.{refl}
use Rattle.batch_meaning.specs.Working.{leaves}
use Rattle.batch_meaning.proofs.Composed.{does_over, does_then}
use Rattle.statement_exec.proofs.home.leave.Goals as goal

pub returns-in-Nowhere-clause-does : goal.returns-in-Nowhere-clause-does
unfolding leaves
returns-in-Nowhere-clause-does g c = rw c.in-Nowhere.is (does_over refl)

pub returns-in-Open-clause-does : goal.returns-in-Open-clause-does
unfolding leaves
returns-in-Open-clause-does g c = rw c.in-Open.is c.relax.ensures.does

pub returns-in-Own-clause-does : goal.returns-in-Own-clause-does
unfolding leaves
returns-in-Own-clause-does g c = rw c.in-Own.is (does_then _ _ c.relax-in-Own.ensures.does c.close.ensures.does)
