use Rattle.write_laws.proofs.Checking.{parts_pass}
use Rattle.write_laws.proofs.law_checking.Goals as goal

pub returns : goal.returns
returns c = parts_pass
