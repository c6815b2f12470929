use Rattle.std.proofs.Common.{true, false, Err, ap}
use Rattle.batch_meaning.proofs.Composed.{does_room}
use Rattle.statement_exec.proofs.DropWays.{does_whole}
use Rattle.statement_exec.proofs.Parts.{does_made}
use Rattle.statement_exec.proofs.dropping.read_whole.Goals as goal

pub returns-in-Ok-clause-does : goal.returns-in-Ok-clause-does
returns-in-Ok-clause-does g c = does_room true (does_whole _ _ _ _ _ (rw c.in-Ok.ensures at c.read-came.ensures.does))

pub returns-in-Err-clause-does : goal.returns-in-Err-clause-does
returns-in-Err-clause-does g c = does_room false (does_made (ap Err c.no_memory.ensures))
