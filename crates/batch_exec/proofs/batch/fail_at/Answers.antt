use Rattle.std.proofs.Common.{◌≡◌, to_z, of_z, refl, rules}
use Rattle.std.specs.Int.{w32}
use Rattle.batch_meaning.proofs.Composed.{does_makes, does_out}
use Rattle.batch_exec.proofs.batch.fail_at.Goals as goal

pub returns-in_err-raised-clause-does : goal.returns-in_err-raised-clause-does
returns-in_err-raised-clause-does g c = does_makes c.tell_rows.ensures (does_out _ c.from_residual.ensures.0 refl)

pub returns-clause-does : goal.returns-clause-does
returns-clause-does g c =
    let same : to_z w32 (of_z w32 c.args.line) ≡ c.args.line = search rules in
    does_makes c.tell_rows.ensures (rw (c.in_ok-raised.ensures, c.batch-around.ensures, same) at c.raise_at.ensures.does)
