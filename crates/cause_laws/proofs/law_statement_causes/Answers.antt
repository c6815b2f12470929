use Rattle.cause_laws.proofs.Batches.{batch_tells, call_tells, statement_tells}
use Rattle.cause_laws.proofs.law_statement_causes.Goals as goal

pub returns-clause-batch : goal.returns-clause-batch
returns-clause-batch c = batch_tells

pub returns-clause-call : goal.returns-clause-call
returns-clause-call c = call_tells

pub returns-clause-statement : goal.returns-clause-statement
returns-clause-statement c = statement_tells
