use Rattle.binding_laws.proofs.Checks.{checks_formed}
use Rattle.binding_laws.proofs.law_checks.Goals as goal

pub returns : goal.returns
returns c = checks_formed
