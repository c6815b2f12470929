use Rattle.ample_laws.proofs.Refusals.{ample_batches, ample_calls}
use Rattle.ample_laws.proofs.law_ample.Goals as goal

pub returns-clause-batch : goal.returns-clause-batch
returns-clause-batch c = ample_batches

pub returns-clause-call : goal.returns-clause-call
returns-clause-call c = ample_calls
