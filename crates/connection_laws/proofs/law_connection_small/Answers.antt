use Rattle.connection_laws.proofs.Small.{connection_small}
use Rattle.connection_laws.proofs.law_connection_small.Goals as goal

pub returns : goal.returns
returns c = connection_small
