use Rattle.std.proofs.Common.{refl, sym, Err, ap}
use Rattle.batch_meaning.specs.Working.{enters}
use Rattle.batch_meaning.proofs.Composed.{does_over, does_reads, does_yes, does_no, does_asks}
use Rattle.statement_exec.proofs.Parts.{does_made}
use Rattle.statement_exec.proofs.home.enter.Goals as goal

pub returns-then-not-asks_any-clause-does : goal.returns-then-not-asks_any-clause-does
unfolding enters
returns-then-not-asks_any-clause-does g c = rw c.if-not-asks_any.true (does_over refl)

pub returns-then-in_transaction-clause-does : goal.returns-then-in_transaction-clause-does
unfolding enters
returns-then-in_transaction-clause-does g c = rw c.if-not-asks_any.false (does_reads (does_yes _ _ _ (sym c.if-in_transaction.ensures) (does_over refl)))

pub returns-in-Began-clause-does : goal.returns-in-Began-clause-does
unfolding enters
returns-in-Began-clause-does g c = rw c.if-not-asks_any.false (does_reads (does_no _ _ _ (sym c.if-in_transaction.ensures) (does_asks c.in-Began.ensures.asked (does_over refl))))

pub returns-in-Memory-clause-does : goal.returns-in-Memory-clause-does
unfolding enters
returns-in-Memory-clause-does g c = rw c.if-not-asks_any.false (does_reads (does_no _ _ _ (sym c.if-in_transaction.ensures) (does_asks c.in-Memory.ensures.asked (does_made (ap Err c.no_memory.ensures)))))
