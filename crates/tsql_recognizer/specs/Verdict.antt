-- Own: what the recognizer says of a list of lexemes. It says it by the grammar's words, with no
-- stack: which part of the list begins a text of the rule, or that the whole is one.
use Rattle.std.specs.Prelude.{◌≡◌, ℕ, List}
use Rattle.tsql_grammar.specs.declared.rule.Rule.{Rule}
use Rattle.tsql_grammar.specs.Language.{ReadsAs, StopsIn}
use Rattle.tsql_grammar.specs.Noted.{Noted}
use Rattle.tsql_grammar.specs.Productions.{Tree}
use Rattle.tsql_grammar.specs.Terminals.{Terminal}
use Rattle.tsql_recognizer.specs.declared.recognizer.Verdict.{Verdict}
use Rattle.tsql_recognizer.specs.declared.recognizer.Verdict.TheVariants.{Stops, Reads}

-- So many lexemes are the longest part that begins a text of the rule, and the whole is none; or the
-- whole is one, and this is the first thing in it that is wrong. What the batch's text is, from which
-- the trees take their slices, does not matter.
abbrev pub IsVerdict : Rule → List Terminal → Noted → Verdict → Type 0
IsVerdict a w s (Stops at) = (text : List ℕ) → StopsIn text a w s at
IsVerdict a w s (Reads fault) = (t : Noted) × (t.fault ≡ fault) × ((text : List ℕ) → (tree : Tree a) × ReadsAs text a w tree s t)
