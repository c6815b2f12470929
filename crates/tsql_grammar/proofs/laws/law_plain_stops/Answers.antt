use Rattle.tsql_grammar.proofs.PlainTexts.{plain_stops}
use Rattle.tsql_grammar.proofs.laws.law_plain_stops.Goals as goal

pub returns : goal.returns
returns c = plain_stops
