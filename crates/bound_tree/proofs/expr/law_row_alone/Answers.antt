use Rattle.bound_tree.proofs.Alone.{formed_alike, truth_alike}
use Rattle.bound_tree.proofs.expr.law_row_alone.Goals as goal

pub returns : goal.returns
returns c = record {
  expr = λ kinds a b same expr kind formed. formed_alike kinds a b same expr kind formed;
  test = λ kinds a b same test formed. truth_alike kinds a b same test formed;
}
