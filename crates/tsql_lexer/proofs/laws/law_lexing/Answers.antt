use Rattle.tsql_lexer.proofs.Whole.{text_lexes, lexes_once}
use Rattle.tsql_lexer.proofs.laws.law_lexing.Goals as goal

pub returns-clause-read : goal.returns-clause-read
returns-clause-read c = text_lexes

pub returns-clause-once : goal.returns-clause-once
returns-clause-once c = lexes_once
