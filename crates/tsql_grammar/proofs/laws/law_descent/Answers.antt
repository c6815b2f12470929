use Rattle.tsql_grammar.proofs.Readings.{whole}
use Rattle.tsql_grammar.proofs.laws.law_descent.Goals as goal

pub returns : goal.returns
returns c = whole
