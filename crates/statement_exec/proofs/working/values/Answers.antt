use Rattle.std.proofs.Common.{Err, Ok, ap}
use Rattle.statement_exec.proofs.Parts.{does_made}
use Rattle.statement_exec.proofs.working.values.Goals as goal

pub returns-in-Query-clause-does : goal.returns-in-Query-clause-does
returns-in-Query-clause-does g c = rw c.in-Query.is c.answer.ensures.does

pub returns-in-Plain-clause-does : goal.returns-in-Plain-clause-does
returns-in-Plain-clause-does g c = rw c.in-Plain.is (does_made (ap Ok c.new.ensures.items))

pub returns-in-Write-clause-does : goal.returns-in-Write-clause-does
returns-in-Write-clause-does g c = rw c.in-Write.is (does_made (ap Err c.plain.ensures))

pub returns-in-Assign-clause-does : goal.returns-in-Assign-clause-does
returns-in-Assign-clause-does g c = rw c.in-Assign.is (does_made (ap Err c.plain-in-Assign.ensures))
