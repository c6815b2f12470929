use Rattle.std.proofs.Common.{refl, sym}
use Rattle.batch_meaning.proofs.Composed.{does_out}
use Rattle.batch_exec.proofs.simple.throw_again.Goals as goal

pub returns-in_err-raised-in-Some-clause-does : goal.returns-in_err-raised-in-Some-clause-does
returns-in_err-raised-in-Some-clause-does g c = does_out _ c.from_residual.ensures.0 refl

pub returns-in_ok-raised-in-Some-clause-does : goal.returns-in_ok-raised-in-Some-clause-does
returns-in_ok-raised-in-Some-clause-does g c = rw (sym c.in-Some.ensures) (rw c.in_ok-raised-in-Some.ensures at c.raise_counted.ensures.does)

pub returns-in-None-clause-does : goal.returns-in-None-clause-does
returns-in-None-clause-does g c = rw (sym c.in-None.ensures) (rw c.plain-failure.ensures at c.fail.ensures.does)
