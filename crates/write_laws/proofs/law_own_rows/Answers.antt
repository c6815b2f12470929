use Rattle.write_laws.proofs.Indexed.{own_behind}
use Rattle.write_laws.proofs.law_own_rows.Goals as goal

pub returns : goal.returns
returns c = own_behind
