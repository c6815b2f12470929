use Rattle.std.proofs.Common.{Err, ap, refl, sym}
use Rattle.batch_meaning.specs.Transactions.{rolls_back_transaction}
use Rattle.batch_meaning.proofs.Composed.{does_yes}
use Rattle.statement_exec.proofs.Parts.{does_made}
use Rattle.batch_exec.proofs.TxnSteps.{rolls_all, rolls_none, rolls_to}
use Rattle.batch_exec.proofs.transactions.roll_back_transaction.Goals as goal

pub returns-then-is_maybe_long-clause-does : goal.returns-then-is_maybe_long-clause-does
unfolding rolls_back_transaction
returns-then-is_maybe_long-clause-does g c = does_yes _ _ _ (sym c.if-is_maybe_long.ensures) (does_made (ap Err c.plain.ensures))

pub returns-in-Some-clause-does : goal.returns-in-Some-clause-does
returns-in-Some-clause-does g c = rolls_to _ (sym c.if-is_maybe_long.ensures) c.in-Some.name.now (rw c.in-Some.is refl) c.go_back.ensures.does

pub returns-in-None-clause-does : goal.returns-in-None-clause-does
returns-in-None-clause-does g c = rolls_none _ (sym c.if-is_maybe_long.ensures) (rw c.in-None.is refl) (sym c.if-is_closed.ensures) (does_made (ap Err c.plain-in-None.ensures))

pub returns-in-None-2-clause-does : goal.returns-in-None-2-clause-does
returns-in-None-2-clause-does g c = rolls_all _ (sym c.if-is_maybe_long.ensures) (rw c.in-None.is refl) (sym c.if-is_closed.ensures) c.roll_back_whole.ensures.does
