use Rattle.transfer_load.proofs.OneReading.{one_reading}
use Rattle.transfer_load.proofs.laws.law_one_reading.Goals as goal

pub returns : goal.returns
returns c = one_reading
