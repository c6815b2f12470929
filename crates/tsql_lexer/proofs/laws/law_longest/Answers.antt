use Rattle.tsql_lexer.proofs.Whole.{no_longer}
use Rattle.tsql_lexer.proofs.laws.law_longest.Goals as goal

pub returns : goal.returns
returns c = no_longer
