use Rattle.std.proofs.Common.{◌≡◌, to_z, of_z, refl, rules}
use Rattle.std.specs.Int.{w32}
use Rattle.batch_meaning.specs.Rpc.{fails_call}
use Rattle.batch_meaning.proofs.Composed.{does_makes, does_out, does_reads}
use Rattle.batch_exec.proofs.rpc.fail_call.Goals as goal

pub returns-in_err-raised-clause-does : goal.returns-in_err-raised-clause-does
unfolding fails_call
returns-in_err-raised-clause-does g c = does_makes c.tell_rows.ensures (does_out _ c.from_residual.ensures.0 refl)

pub returns-in_err-told-clause-does : goal.returns-in_err-told-clause-does
unfolding fails_call
returns-in_err-told-clause-does g c = does_makes c.tell_rows.ensures (does_out _ c.from_residual-in_err-told.ensures.0 refl)

pub returns-in_err-tokens-clause-does : goal.returns-in_err-tokens-clause-does
unfolding fails_call
returns-in_err-tokens-clause-does g c =
    let same : to_z w32 (of_z w32 c.in_ok-told.told.number) ≡ c.in_ok-told.told.number = search rules in
    does_makes c.tell_rows.ensures (does_reads (does_makes (rw (c.get-2.ensures, same, c.in_ok-told.ensures, c.in_ok-raised.ensures) at c.tell_error.ensures) (does_out _ c.from_residual-in_err-tokens.ensures.0 refl)))

pub returns-in_err-send-clause-does : goal.returns-in_err-send-clause-does
unfolding fails_call
returns-in_err-send-clause-does g c =
    let same : to_z w32 (of_z w32 c.in_ok-told.told.number) ≡ c.in_ok-told.told.number = search rules in
    does_makes c.tell_rows.ensures (does_reads (does_makes (rw (c.get-2.ensures, same, c.in_ok-told.ensures, c.in_ok-raised.ensures) at c.tell_error.ensures) (does_out _ c.from_residual-in_err-send.ensures.0 c.in_err-send.ensures.kept)))

pub returns-clause-does : goal.returns-clause-does
unfolding fails_call
returns-clause-does g c =
    let same : to_z w32 (of_z w32 c.in_ok-told.told.number) ≡ c.in_ok-told.told.number = search rules in
    does_makes c.tell_rows.ensures (does_reads (does_makes (rw (c.get-2.ensures, same, c.in_ok-told.ensures, c.in_ok-raised.ensures) at c.tell_error.ensures)
    (does_makes (rw (c.in_ok-tokens.ensures, c.get-3.ensures, c.in_ok-told.ensures, c.in_ok-raised.ensures) at c.in_ok-send.ensures.sent) (rw (c.ending.ensures, c.action-action.ensures, c.batch.ensures, c.settings.ensures, c.get.ensures, c.in_ok-told.ensures, c.in_ok-raised.ensures) at c.end_by.ensures.does))))
