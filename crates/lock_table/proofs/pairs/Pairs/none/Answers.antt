use Rattle.lock_table.proofs.Numbers.{none_of}
use Rattle.lock_table.proofs.pairs.Pairs.none.Goals as goal

pub returns : goal.returns
returns c = λ session. none_of session 65
