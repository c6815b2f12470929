use Rattle.tsql_grammar.proofs.Readings.{pieces}
use Rattle.tsql_grammar.proofs.laws.law_pieces.Goals as goal

pub returns : goal.returns
returns c = pieces
