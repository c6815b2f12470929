use Rattle.ample_laws.proofs.Within.{batches_within, calls_within}
use Rattle.ample_laws.proofs.law_within.Goals as goal

pub returns-clause-batch : goal.returns-clause-batch
returns-clause-batch c = batches_within

pub returns-clause-call : goal.returns-clause-call
returns-clause-call c = calls_within
