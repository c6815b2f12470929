use Rattle.query_laws.proofs.Laws.{select_formed}
use Rattle.query_laws.proofs.law_select.Goals as goal

pub returns : goal.returns
returns c = select_formed
