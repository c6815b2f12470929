use Rattle.write_laws.proofs.KeySizes.{keys_sized}
use Rattle.write_laws.proofs.law_keys_sized.Goals as goal

pub returns : goal.returns
returns c = keys_sized
