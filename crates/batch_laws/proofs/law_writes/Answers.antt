use Rattle.batch_laws.proofs.Writes.{writes_whole}
use Rattle.batch_laws.proofs.law_writes.Goals as goal

pub returns : goal.returns
returns c = writes_whole
