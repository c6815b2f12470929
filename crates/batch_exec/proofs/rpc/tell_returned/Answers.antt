use Rattle.std.proofs.Common.{◌≡◌, to_z, of_z, rules, sym}
use Rattle.std.specs.Int.{w32}
use Rattle.batch_meaning.proofs.Composed.{does_makes, does_no, does_out, does_reads, does_yes}
use Rattle.batch_exec.proofs.rpc.tell_returned.Goals as goal

pub returns-then-is_full-clause-does : goal.returns-then-is_full-clause-does
returns-then-is_full-clause-does g c = does_reads (does_yes _ _ _ (sym c.if-is_full.ensures) (rw c.plain.ensures at c.fail_call.ensures.does))

pub returns-in_err-send-clause-does : goal.returns-in_err-send-clause-does
returns-in_err-send-clause-does g c =
    let same : to_z w32 (of_z w32 c.args.error) ≡ c.args.error = search rules in
    does_reads (does_no _ _ _ (sym c.if-is_full.ensures) (does_makes c.tell_rows.ensures (does_makes (rw same at c.tell_error.ensures) (does_out _ c.from_residual.ensures.0 c.in_err-send.ensures.kept))))

pub returns-clause-does : goal.returns-clause-does
returns-clause-does g c =
    let same : to_z w32 (of_z w32 c.args.error) ≡ c.args.error = search rules in
    does_reads (does_no _ _ _ (sym c.if-is_full.ensures) (does_makes c.tell_rows.ensures (does_makes (rw same at c.tell_error.ensures) (does_makes c.in_ok-send.ensures.sent c.end_by.ensures.does))))
