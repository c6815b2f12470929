use Rattle.connection_laws.proofs.Ample.{connection_ends}
use Rattle.connection_laws.proofs.law_connection_ends.Goals as goal

pub returns : goal.returns
returns c = connection_ends
