use Rattle.batch_meaning.proofs.OneReading.{one_reading}
use Rattle.batch_meaning.proofs.laws.law_reading.Goals as goal

pub returns : goal.returns
returns c = λ text x y a b. one_reading text x y a b
