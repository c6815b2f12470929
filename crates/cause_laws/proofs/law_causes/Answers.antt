use Rattle.cause_laws.proofs.Causes.{batch_causes, call_causes}
use Rattle.cause_laws.proofs.law_causes.Goals as goal

pub returns-clause-batch : goal.returns-clause-batch
returns-clause-batch c = batch_causes

pub returns-clause-call : goal.returns-clause-call
returns-clause-call c = call_causes
