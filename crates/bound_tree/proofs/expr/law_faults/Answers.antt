use Rattle.bound_tree.proofs.Raised.{raised, truth_faults, value_faults}
use Rattle.bound_tree.proofs.expr.law_faults.Goals as goal

pub returns : goal.returns
returns c = record {
  expr = λ setting expr number is. raised _ (value_faults setting expr) number is;
  test = λ setting test number is. raised _ (truth_faults setting test) number is;
}
