use Rattle.write_laws.proofs.Bound.{bound_stands}
use Rattle.write_laws.proofs.law_bound_stands.Goals as goal

pub returns : goal.returns
returns c = bound_stands
