use Rattle.connection_laws.proofs.Served.{connection_asks, connection_served}
use Rattle.connection_laws.proofs.law_served_connection.Goals as goal

pub returns-clause-asks : goal.returns-clause-asks
returns-clause-asks c = connection_asks

pub returns-clause-served : goal.returns-clause-served
returns-clause-served c = connection_served
