use Rattle.ample_laws.proofs.Ends.{batches_end, calls_end}
use Rattle.ample_laws.proofs.law_ends.Goals as goal

pub returns-clause-batch : goal.returns-clause-batch
returns-clause-batch c = batches_end

pub returns-clause-call : goal.returns-clause-call
returns-clause-call c = calls_end
