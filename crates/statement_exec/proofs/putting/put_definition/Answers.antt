use Rattle.std.proofs.Common.{true, false, Err, ap}
use Rattle.batch_meaning.proofs.Composed.{does_room}
use Rattle.statement_exec.proofs.Parts.{does_made}
use Rattle.statement_exec.proofs.putting.put_definition.Goals as goal

pub returns-in-Ok-clause-does : goal.returns-in-Ok-clause-does
returns-in-Ok-clause-does g c = does_room true (rw c.in-Ok.ensures at c.put_marked.ensures.does)

pub returns-in-Err-clause-does : goal.returns-in-Err-clause-does
returns-in-Err-clause-does g c = does_room false (does_made (ap Err c.no_memory.ensures))

pub put_marked-requires-clause-inserts : goal.put_marked-requires-clause-inserts
put_marked-requires-clause-inserts g c = rw c.in-Ok.ensures tt
