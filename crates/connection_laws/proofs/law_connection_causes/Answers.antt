use Rattle.connection_laws.proofs.Causes.{connection_causes}
use Rattle.connection_laws.proofs.law_connection_causes.Goals as goal

pub returns : goal.returns
returns c = connection_causes
