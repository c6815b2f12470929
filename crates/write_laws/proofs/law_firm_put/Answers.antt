use Rattle.write_laws.proofs.Puts.{firm_put}
use Rattle.write_laws.proofs.law_firm_put.Goals as goal

pub returns : goal.returns
returns c = firm_put
