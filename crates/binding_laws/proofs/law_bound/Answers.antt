use Rattle.binding_laws.proofs.Statements.{bound_formed}
use Rattle.binding_laws.proofs.law_bound.Goals as goal

pub returns : goal.returns
returns c = bound_formed
