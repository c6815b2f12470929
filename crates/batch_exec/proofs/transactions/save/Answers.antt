use Rattle.std.proofs.Common.{true, false, Ok, Err, ap}
use Rattle.batch_meaning.proofs.Composed.{does_asks, does_makes, does_room}
use Rattle.statement_exec.proofs.Parts.{does_made}
use Rattle.batch_exec.proofs.transactions.save.Goals as goal

pub returns-in_default-clause-does : goal.returns-in_default-clause-does
returns-in_default-clause-does g c = does_room false (does_made (ap Err c.no_memory.ensures))

pub returns-in-Ok-save-clause-does : goal.returns-in-Ok-save-clause-does
returns-in-Ok-save-clause-does g c = does_room true (does_asks c.in-Marked.ensures.asked (does_room true (does_makes (rw c.in-Ok.ensures at c.in-Ok-save.ensures.saved) (does_made (ap Ok c.none.ensures)))))

pub returns-in-Err-clause-does : goal.returns-in-Err-clause-does
returns-in-Err-clause-does g c = does_room true (does_asks c.in-Marked.ensures.asked (rw c.in-Err.ensures.kept (does_room false (does_made (ap Err c.no_memory-in-Err.ensures)))))

pub returns-in-Memory-clause-does : goal.returns-in-Memory-clause-does
returns-in-Memory-clause-does g c = does_room true (does_asks c.in-Memory.ensures.asked (does_made (ap Err c.no_memory-in-Memory.ensures)))
