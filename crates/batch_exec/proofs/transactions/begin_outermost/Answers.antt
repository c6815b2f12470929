use Rattle.std.proofs.Common.{true, false, Ok, Err, ap, sym, ◌∙◌}
use Rattle.batch_meaning.specs.Progress.{SessionProgress}
use Rattle.batch_meaning.specs.Selecting.{sending}
use Rattle.batch_meaning.specs.Transactions.{begins_outermost}
use Rattle.batch_meaning.proofs.Composed.{does_asks, does_makes, does_room}
use Rattle.session_state.specs.Ending.{begun_serial}
use Rattle.batch_exec.proofs.Affording.{does_unaffordable}
use Rattle.statement_exec.proofs.Parts.{does_made}
use Rattle.batch_exec.proofs.TxnSteps.{does_afforded}
use Rattle.batch_exec.proofs.transactions.begin_outermost.Goals as goal

pub open-requires-clause-number : goal.open-requires-clause-number
open-requires-clause-number g c = c.in-Ok.ensures.number ∙ ap (λ (p : SessionProgress). begun_serial p.txn) (sym c.in-Began.ensures.asked.same)

pub returns-in_err-tokens-clause-does : goal.returns-in_err-tokens-clause-does
unfolding begins_outermost
returns-in_err-tokens-clause-does g c = does_unaffordable _ _ _ _ _ c.from_residual.ensures.0 c.from_residual.ensures.1 (rw c.next_serial.ensures at c.transaction_begun.ensures) c.in_err-tokens.ensures

pub returns-in_default-clause-does : goal.returns-in_default-clause-does
returns-in_default-clause-does g c = does_room false (does_made (ap Err c.no_memory.ensures))

pub returns-in-Began-clause-does : goal.returns-in-Began-clause-does
unfolding begins_outermost
returns-in-Began-clause-does g c =
    let named = c.in-Ok.ensures.name in
    does_room true (does_afforded _ _ _ (rw c.next_serial.ensures at c.transaction_begun.ensures) c.in_ok-tokens.ensures (λ is. does_room true (does_asks c.in-Began.ensures.asked (does_makes (rw named at c.open.ensures) (does_made (ap Ok (c.sending.ensures ∙ ap sending is)))))))

pub returns-in-Memory-clause-does : goal.returns-in-Memory-clause-does
unfolding begins_outermost
returns-in-Memory-clause-does g c = does_room true (does_afforded _ _ _ (rw c.next_serial.ensures at c.transaction_begun.ensures) c.in_ok-tokens.ensures (λ is. does_room true (does_asks c.in-Memory.ensures.asked (does_made (ap Err c.no_memory-in-Memory.ensures)))))
