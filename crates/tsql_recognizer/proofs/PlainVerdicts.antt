-- A verdict by kinds is one on the lexemes as they are.
use Rattle.std.specs.Prelude.{◌≡◌, false, List}
use Rattle.tsql_lexer.specs.declared.lexeme.Spanned.{Spanned}
use Rattle.tsql_grammar.specs.declared.rule.Rule.{Rule}
use Rattle.tsql_grammar.specs.Noted.{Noted}
use Rattle.tsql_grammar.specs.PlainText.{may_end_before_else}
use Rattle.tsql_grammar.specs.Terminals.{terminals}
use Rattle.tsql_grammar.proofs.PlainTexts.{kinds_read, plain_stops}
use Rattle.tsql_recognizer.specs.declared.recognizer.Verdict.{Verdict}
use Rattle.tsql_recognizer.specs.declared.recognizer.Verdict.TheVariants.{Stops, Reads}
use Rattle.tsql_recognizer.specs.PlainVerdict.{IsPlainVerdict}
use Rattle.tsql_recognizer.specs.Verdict.{IsVerdict}

pub plain_verdict : (a : Rule) (w : List Spanned) (s : Noted) (v : Verdict) → may_end_before_else a ≡ false → IsVerdict a (terminals w) s v → IsPlainVerdict a w s v
plain_verdict a w s (Stops at) e d = λ text. plain_stops text a w s at e (d text)
plain_verdict a w s (Reads fault) e (t, f, d) = (t, f, λ text. let x = d text in (x.0, kinds_read text a w x.0 s t x.1))
