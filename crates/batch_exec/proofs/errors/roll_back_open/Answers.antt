use Rattle.std.proofs.Common.{refl, sym}
use Rattle.batch_meaning.specs.Meaning.{rolls_back_open}
use Rattle.batch_meaning.proofs.Composed.{does_over, does_reads, does_yes, does_no, does_asks}
use Rattle.batch_exec.proofs.errors.roll_back_open.Goals as goal

pub returns-in-Ended-clause-does : goal.returns-in-Ended-clause-does
unfolding rolls_back_open
returns-in-Ended-clause-does g c = does_reads (does_yes _ _ _ (sym c.if-in_transaction.ensures) (does_asks c.in-Ended.ensures.asked (does_over refl)))

pub returns-else-in_transaction-clause-does : goal.returns-else-in_transaction-clause-does
unfolding rolls_back_open
returns-else-in_transaction-clause-does g c = does_reads (does_no _ _ _ (sym c.if-in_transaction.ensures) (does_over refl))
