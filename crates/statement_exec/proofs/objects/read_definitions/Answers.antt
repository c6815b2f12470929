use Rattle.std.proofs.Common.{true, false, Err, ap}
use Rattle.batch_meaning.specs.Asking.{reads_definitions}
use Rattle.batch_meaning.proofs.Composed.{does_room}
use Rattle.statement_exec.proofs.Parts.{does_made}
use Rattle.statement_exec.proofs.objects.read_definitions.Goals as goal

pub returns-in-Ok-clause-does : goal.returns-in-Ok-clause-does
unfolding reads_definitions
returns-in-Ok-clause-does g c = does_room true c.read_all.ensures.does

pub returns-in-Err-clause-does : goal.returns-in-Err-clause-does
unfolding reads_definitions
returns-in-Err-clause-does g c = does_room false (does_made (ap Err c.plain.ensures))
