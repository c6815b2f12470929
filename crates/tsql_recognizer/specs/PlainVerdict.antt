-- Own: the same verdict on lexemes as the lexer gives them, where a semicolon is a semicolon, whatever
-- stands behind it.
use Rattle.std.specs.Prelude.{◌≡◌, ℕ, List}
use Rattle.tsql_lexer.specs.declared.lexeme.Spanned.{Spanned}
use Rattle.tsql_grammar.specs.declared.rule.Rule.{Rule}
use Rattle.tsql_grammar.specs.Noted.{Noted}
use Rattle.tsql_grammar.specs.PlainText.{ReadsPlain, PlainStopsIn}
use Rattle.tsql_grammar.specs.Productions.{Tree}
use Rattle.tsql_recognizer.specs.declared.recognizer.Verdict.{Verdict}
use Rattle.tsql_recognizer.specs.declared.recognizer.Verdict.TheVariants.{Stops, Reads}

-- So many lexemes are the longest part that begins a text of the rule, and the whole is none; or the
-- whole is one, and this is the first thing in it that is wrong.
abbrev pub IsPlainVerdict : Rule → List Spanned → Noted → Verdict → Type 0
IsPlainVerdict a w s (Stops at) = (text : List ℕ) → PlainStopsIn text a w s at
IsPlainVerdict a w s (Reads fault) = (t : Noted) × (t.fault ≡ fault) × ((text : List ℕ) → (tree : Tree a) × ReadsPlain text a w tree s t)
