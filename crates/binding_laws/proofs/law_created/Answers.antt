use Rattle.binding_laws.proofs.Created.{table_created}
use Rattle.binding_laws.proofs.law_created.Goals as goal

pub returns : goal.returns
returns c = table_created
