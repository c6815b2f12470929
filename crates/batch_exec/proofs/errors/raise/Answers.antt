use Rattle.std.proofs.Common.{◌≡◌, to_z, of_z, refl, rules}
use Rattle.std.specs.Int.{w32}
use Rattle.batch_meaning.proofs.Composed.{does_out}
use Rattle.batch_exec.proofs.errors.raise.Goals as goal

pub returns-in_err-line-clause-does : goal.returns-in_err-line-clause-does
returns-in_err-line-clause-does g c = does_out _ c.from_residual.ensures.0 refl

pub returns-clause-does : goal.returns-clause-does
returns-clause-does g c =
    let line : to_z w32 (of_z w32 c.in_ok-line.line) ≡ c.in_ok-line.line = search rules in
    (rw (line, c.in_ok-line.ensures, c.command_of.ensures) at c.raise_at.ensures.does)
