use Rattle.step_script.proofs.Joins.{is_cut, only_cut}
use Rattle.step_script.proofs.laws.law_pieces.Goals as goal

pub returns : goal.returns
returns c = record { cut = is_cut; only = only_cut }
