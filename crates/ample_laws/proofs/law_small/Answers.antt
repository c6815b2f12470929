use Rattle.ample_laws.proofs.Small.{small_batches, small_calls}
use Rattle.ample_laws.proofs.law_small.Goals as goal

pub returns-clause-batch : goal.returns-clause-batch
returns-clause-batch c = small_batches

pub returns-clause-call : goal.returns-clause-call
returns-clause-call c = small_calls
