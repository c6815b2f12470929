use Rattle.bound_tree.proofs.Sound.{typed_law}
use Rattle.bound_tree.proofs.expr.law_typed.Goals as goal

pub returns : goal.returns
returns c = λ types setting fits expr kind formed. typed_law types setting fits expr kind formed
