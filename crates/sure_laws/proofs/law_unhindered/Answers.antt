use Rattle.sure_laws.proofs.Laws.{unhindered_batches}
use Rattle.sure_laws.proofs.law_unhindered.Goals as goal

pub returns : goal.returns
returns c = unhindered_batches
