-- Own: what is known of the lexemes of a text once they were recognized, kept as one word for proofs.
use Rattle.std.specs.Prelude.{true, List}
use Rattle.tsql_lexer.specs.declared.lexeme.Spanned.{Spanned}
use Rattle.tsql_grammar.specs.declared.rule.Rule.{Rule}
use Rattle.tsql_grammar.specs.Noted.{start}
use Rattle.tsql_grammar.specs.Terminals.{terminals}
use Rattle.tsql_recognizer.specs.declared.recognizer.Verdict.{Verdict}
use Rattle.tsql_recognizer.specs.Verdict.{IsVerdict}

-- the verdict on lexemes in which variables are judged
unfoldable pub IsJudged : Rule → List Spanned → Verdict → Type 0
IsJudged a w v = IsVerdict a (terminals w) (start true) v
