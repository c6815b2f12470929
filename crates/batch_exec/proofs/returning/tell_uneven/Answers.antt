use Rattle.std.proofs.Common.{◌≡◌, to_z, of_z, rules}
use Rattle.std.specs.Int.{w32}
use Rattle.batch_meaning.proofs.Composed.{does_makes, does_out}
use Rattle.batch_exec.proofs.returning.tell_uneven.Goals as goal

pub returns-in_err-send-clause-does : goal.returns-in_err-send-clause-does
returns-in_err-send-clause-does g c =
    let same : to_z w32 (of_z w32 c.args.raised.number) ≡ c.args.raised.number = search rules in
    does_makes c.tell_rows.ensures (does_makes (rw (c.get.ensures, same) at c.tell_error.ensures) (does_out _ c.from_residual.ensures.0 c.in_err-send.ensures.kept))

pub returns-clause-does : goal.returns-clause-does
returns-clause-does g c =
    let same : to_z w32 (of_z w32 c.args.raised.number) ≡ c.args.raised.number = search rules in
    does_makes c.tell_rows.ensures (does_makes (rw (c.get.ensures, same) at c.tell_error.ensures) (does_makes c.in_ok-send.ensures.sent c.uneven_end.ensures.does))
