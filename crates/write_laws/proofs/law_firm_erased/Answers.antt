use Rattle.write_laws.proofs.Erased.{firm_erased}
use Rattle.write_laws.proofs.law_firm_erased.Goals as goal

pub returns : goal.returns
returns c = firm_erased
