use Rattle.connection_laws.proofs.Sound.{connections_keep}
use Rattle.connection_laws.proofs.law_connections_keep.Goals as goal

pub returns : goal.returns
returns c = connections_keep
