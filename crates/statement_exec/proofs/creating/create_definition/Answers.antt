use Rattle.std.proofs.Common.{Err, ap}
use Rattle.batch_meaning.specs.Writes.{creates_definition}
use Rattle.statement_exec.proofs.Parts.{does_made}
use Rattle.statement_exec.proofs.creating.create_definition.Goals as goal

pub returns-in-Table-clause-does : goal.returns-in-Table-clause-does
unfolding creates_definition
returns-in-Table-clause-does g c = rw c.in-Table.is (does_made (ap Err c.plain.ensures))

pub returns-in-Procedure-clause-does : goal.returns-in-Procedure-clause-does
returns-in-Procedure-clause-does g c = rw c.in-Procedure.is c.create_procedure.ensures.does

pub returns-in-Trigger-clause-does : goal.returns-in-Trigger-clause-does
returns-in-Trigger-clause-does g c = rw c.in-Trigger.is c.create_trigger.ensures.does
