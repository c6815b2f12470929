use Rattle.sure_laws.proofs.Alike.{told_of_key}
use Rattle.sure_laws.proofs.law_of_key.Goals as goal

pub returns : goal.returns
returns c = told_of_key
