use Rattle.connection_laws.proofs.Ample.{connection_ample}
use Rattle.connection_laws.proofs.law_connection_ample.Goals as goal

pub returns : goal.returns
returns c = connection_ample
