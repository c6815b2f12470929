use Rattle.sure_laws.proofs.Alike.{told_alike}
use Rattle.sure_laws.proofs.law_alike.Goals as goal

pub returns : goal.returns
returns c = told_alike
