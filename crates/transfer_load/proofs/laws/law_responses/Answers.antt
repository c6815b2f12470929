use Rattle.transfer_load.proofs.OneReading.{responses_read}
use Rattle.transfer_load.proofs.laws.law_responses.Goals as goal

pub returns : goal.returns
returns c = responses_read
