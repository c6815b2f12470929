use Rattle.query_laws.proofs.Laws.{select_typed}
use Rattle.query_laws.proofs.law_select_answer.Goals as goal

pub returns : goal.returns
returns c = select_typed
