-- Transact-SQL reference, IF...ELSE: the grammar over lexemes as the lexer gives them, where a semicolon
-- is a semicolon, whatever stands behind it. The table has a kind of its own for one directly before
-- ELSE, so that one lexeme ahead tells what to do; `law_plain_reads` and `law_plain_stops` say that this
-- moves nothing.
use Rattle.std.specs.Prelude.{◌≡◌, ℕ, ◌≤◌, Bool, true, false, ◌||◌, ◌&&◌, List, [], ◌∷◌, ◌++◌, length, take, drop}
use Rattle.tsql_lexer.specs.declared.lexeme.Sign.TheVariants as s
use Rattle.tsql_lexer.specs.declared.lexeme.Spanned.{Spanned}
use Rattle.tsql_grammar.specs.declared.kind.Kind.{Kind}
use Rattle.tsql_grammar.specs.declared.kind.Kind.TheVariants as k
use Rattle.tsql_grammar.specs.declared.rule.Class.{Class}
use Rattle.tsql_grammar.specs.declared.rule.Mark.{Mark}
use Rattle.tsql_grammar.specs.declared.rule.Rule.{Rule}
use Rattle.tsql_grammar.specs.declared.rule.Rule.TheVariants as r
use Rattle.tsql_grammar.specs.Kinds.{same_kind}
use Rattle.tsql_grammar.specs.Language.{language}
use Rattle.tsql_grammar.specs.Noted.{Noted}
use Rattle.tsql_grammar.specs.Productions.{Tree}
use Rattle.tsql_grammar.specs.Terminals.{Terminal, terminals, admits}
use Rattle.tsql_grammar.specs.Words.{kind_of}
use Rattle.grammar_laws.specs.Grammar.{Grammar, Reads, Matches, next}
use Rattle.grammar_laws.specs.Grammar.Symbol.{rule}
use Rattle.grammar_laws.specs.Alternatives.{grammar_of}

-- a semicolon is also of the class of those before ELSE
abbrev pub plainly_admits : Class → Kind → Bool
plainly_admits c a = admits c a || (same_kind (k.Sign s.Semicolon) a && admits c k.BeforeElse)

-- The same productions, which see of a semicolon only that it is one: so `[";"] ELSE statement`. What
-- stands behind it counts in one place alone: nothing is taken for an ELSE only where neither ELSE nor a
-- semicolon and ELSE come.
abbrev pub plain_language : List ℕ → Grammar Terminal Class Rule Mark Noted
plain_language text = record (grammar_of (language text)) { admits = λ c l. plainly_admits c (kind_of l.spanned.lexeme) }

-- The lexemes are a text of the rule and stand for the tree, and what is noted leads from s to t.
abbrev pub ReadsPlain : List ℕ → (a : Rule) → List Spanned → Tree a → Noted → Noted → Type 0
ReadsPlain text a w tree s t = Reads (plain_language text) (rule a ∷ []) (terminals w) (tree, tt) s t

-- The lexemes are a text of the rule.
abbrev pub IsPlainText : List ℕ → Rule → List Spanned → Noted → Noted → Type 0
IsPlainText text a w s t = Matches (plain_language text) (rule a ∷ []) (terminals w) s t

-- `past` is the longest part of `past ++ rest` that begins a text of the rule, and the whole is no such
-- text: some lexemes go on from `past`, and none that begin as `rest` does.
pub record PlainStops (text : List ℕ) (a : Rule) (s : Noted) (past rest : List Spanned) : Type 0 where
  pub viable : (w : List Spanned) × (t : Noted) × IsPlainText text a (past ++ w) s t
  pub further : (w : List Spanned) (t : Noted) → next w ≡ next rest → IsPlainText text a (past ++ w) s t → ⊥

-- The first lexemes, so many of them, are the longest part that begins a text of the rule, and the
-- whole is none.
abbrev pub PlainStopsIn : List ℕ → Rule → List Spanned → Noted → ℕ → Type 0
PlainStopsIn text a w s at = (at ≤ length w) × PlainStops text a s (take at w) (drop at w)

-- A text of the rule may end with an IF whose ELSE could still come; behind every other such IF more
-- statements may stand.
abbrev pub may_end_before_else : Rule → Bool
may_end_before_else (r.Statement a) = true
may_end_before_else (r.OtherStatement a) = true
may_end_before_else (r.Else a) = true
may_end_before_else _ = false
