use Rattle.std.proofs.Common.{◌≡◌, to_z, of_z, refl, rules}
use Rattle.std.specs.Int.{w32}
use Rattle.batch_meaning.proofs.Composed.{does_out}
use Rattle.batch_exec.proofs.errors.spend.Goals as goal

pub returns-in_err-line-clause-does : goal.returns-in_err-line-clause-does
returns-in_err-line-clause-does g c = does_out _ c.from_residual.ensures.0 refl

pub returns-in_err-procedure-clause-does : goal.returns-in_err-procedure-clause-does
returns-in_err-procedure-clause-does g c = does_out _ c.from_residual-in_err-procedure.ensures.0 refl

pub returns-in_err-raised-clause-does : goal.returns-in_err-raised-clause-does
returns-in_err-raised-clause-does g c = does_out _ c.from_residual-in_err-raised.ensures.0 refl

pub returns-clause-does : goal.returns-clause-does
returns-clause-does g c =
    let same : to_z w32 (of_z w32 c.in_ok-line.line) ≡ c.in_ok-line.line = search rules in
    rw (c.in_ok-raised.ensures, same, c.in_ok-line.ensures, c.in_ok-procedure.ensures, c.plain.ensures) at c.raise.ensures.does
