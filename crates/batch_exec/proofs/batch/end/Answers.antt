use Rattle.std.proofs.Common.{refl, sym}
use Rattle.batch_meaning.proofs.Composed.{does_makes, does_no, does_out, does_over, does_reads, does_yes}
use Rattle.batch_exec.proofs.batch.end.Goals as goal

pub returns-then-is_doomed-clause-does : goal.returns-then-is_doomed-clause-does
returns-then-is_doomed-clause-does g c = does_reads (does_yes _ _ _ (sym c.if-is_doomed.ensures) c.end_doomed.ensures.does)

pub returns-in_err-end-clause-does : goal.returns-in_err-end-clause-does
returns-in_err-end-clause-does g c = does_reads (does_no _ _ _ (sym c.if-is_doomed.ensures) (does_out _ c.from_residual.ensures.0 refl))

pub returns-in_err-send-clause-does : goal.returns-in_err-send-clause-does
returns-in_err-send-clause-does g c = does_reads (does_no _ _ _ (sym c.if-is_doomed.ensures) (does_out _ c.from_residual-in_err-send.ensures.0 c.in_err-send.ensures.kept))

pub returns-clause-does : goal.returns-clause-does
returns-clause-does g c = does_reads (does_no _ _ _ (sym c.if-is_doomed.ensures) (does_makes (rw (c.in_ok-end.ensures, c.has_failed.ensures) at c.in_ok-send.ensures.sent) (does_over refl)))
