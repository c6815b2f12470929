use Rattle.tsql_grammar.proofs.Readings.{one_reading}
use Rattle.tsql_grammar.proofs.laws.law_one_reading.Goals as goal

pub returns : goal.returns
returns c = one_reading
