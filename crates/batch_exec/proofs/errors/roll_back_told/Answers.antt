use Rattle.std.proofs.Common.{refl, sym}
use Rattle.batch_meaning.specs.Meaning.{rolls_back_told}
use Rattle.batch_meaning.proofs.Composed.{does_over, does_makes, does_out, does_reads, does_yes, does_no, does_asks}
use Rattle.batch_exec.proofs.errors.roll_back_told.Goals as goal

pub returns-then-not-in_transaction-clause-does : goal.returns-then-not-in_transaction-clause-does
unfolding rolls_back_told
returns-then-not-in_transaction-clause-does g c = does_reads (does_no _ _ _ (sym c.if-not-in_transaction.ensures) (does_over refl))

pub returns-in_err-tokens-clause-does : goal.returns-in_err-tokens-clause-does
unfolding rolls_back_told
returns-in_err-tokens-clause-does g c = does_reads (does_yes _ _ _ (sym c.if-not-in_transaction.ensures) (does_out _ c.from_residual.ensures.0 refl))

pub returns-in-Ended-clause-does : goal.returns-in-Ended-clause-does
unfolding rolls_back_told
returns-in-Ended-clause-does g c = does_reads (does_yes _ _ _ (sym c.if-not-in_transaction.ensures) (does_asks c.in-Ended.ensures.asked (rw (sym c.if-is_own.ensures) (does_over refl))))

pub returns-in_err-send-in-Ended-2-clause-does : goal.returns-in_err-send-in-Ended-2-clause-does
unfolding rolls_back_told
returns-in_err-send-in-Ended-2-clause-does g c = does_reads (does_yes _ _ _ (sym c.if-not-in_transaction.ensures) (does_asks c.in-Ended.ensures.asked (does_out _ c.from_residual-in_err-send-in-Ended-2.ensures.0 c.in_err-send-in-Ended-2.ensures.kept)))

pub returns-in_ok-send-in-Ended-2-clause-does : goal.returns-in_ok-send-in-Ended-2-clause-does
unfolding rolls_back_told
returns-in_ok-send-in-Ended-2-clause-does g c = does_reads (does_yes _ _ _ (sym c.if-not-in_transaction.ensures) (does_asks c.in-Ended.ensures.asked (rw (sym c.if-is_own.ensures) (does_makes (rw (c.in_ok-tokens.ensures, c.serial.ensures) at c.in_ok-send-in-Ended-2.ensures.sent) (does_over refl)))))
