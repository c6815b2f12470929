use Rattle.std.proofs.Common.{Err, ap}
use Rattle.batch_meaning.proofs.Composed.{does_asks}
use Rattle.statement_exec.proofs.Changes.{mark_live}
use Rattle.statement_exec.proofs.Parts.{does_made}
use Rattle.statement_exec.proofs.putting.put_marked.Goals as goal

pub insert-requires-clause-live : goal.insert-requires-clause-live
insert-requires-clause-live g c = mark_live _ _ _ c.in-Marked.ensures.asked.past.standing

pub returns-in-Marked-clause-does : goal.returns-in-Marked-clause-does
returns-in-Marked-clause-does g c = does_asks c.in-Marked.ensures.asked c.insert.ensures.does

pub returns-in-Memory-clause-does : goal.returns-in-Memory-clause-does
returns-in-Memory-clause-does g c = does_asks c.in-Memory.ensures.asked (does_made (ap Err c.no_memory.ensures))
