use Rattle.write_laws.proofs.Ranged.{range_of_whole}
use Rattle.write_laws.proofs.law_range_of_whole.Goals as goal

pub returns : goal.returns
returns c = range_of_whole
