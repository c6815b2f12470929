use Rattle.write_laws.proofs.Drops.{firm_drop_planned}
use Rattle.write_laws.proofs.law_firm_drop_planned.Goals as goal

pub returns : goal.returns
returns c = firm_drop_planned
