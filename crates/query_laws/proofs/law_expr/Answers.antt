use Rattle.query_laws.proofs.FormedParts.{expr_formed}
use Rattle.query_laws.proofs.law_expr.Goals as goal

pub returns : goal.returns
returns c = expr_formed
