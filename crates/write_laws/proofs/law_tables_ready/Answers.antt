use Rattle.write_laws.proofs.Written.{tables_ready}
use Rattle.write_laws.proofs.law_tables_ready.Goals as goal

pub returns : goal.returns
returns c = tables_ready
