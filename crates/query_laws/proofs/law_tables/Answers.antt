use Rattle.query_laws.proofs.NamedTables.{tables_named}
use Rattle.query_laws.proofs.law_tables.Goals as goal

pub returns : goal.returns
returns c = tables_named
