-- Transact-SQL reference, search condition: what a test without connectives is. The table reads it with
-- counted parentheses, since one at its front may open a test or an expression and shows only later
-- which; here its productions stand as they are written. That the table means these is `law_basic`.
use Rattle.std.specs.Prelude.{◌≡◌, ℕ, List, [], ◌∷◌}
use Rattle.tsql_lexer.specs.declared.lexeme.Sign.TheVariants as s
use Rattle.tsql_tree.specs.declared.query.Test.TheVariants as test
use Rattle.tsql_grammar.specs.declared.kind.Reserved.TheVariants as w
use Rattle.tsql_grammar.specs.declared.rule.Mark.TheVariants.{Enter, Leave}
use Rattle.tsql_grammar.specs.declared.rule.Rule.{Rule}
use Rattle.tsql_grammar.specs.declared.rule.Rule.TheVariants as r
use Rattle.tsql_grammar.specs.Terminals.{Terminal}
use Rattle.tsql_grammar.specs.Noted.{Noted}
use Rattle.tsql_grammar.specs.Productions.{Production, Tree, sign, reserved, way}
use Rattle.tsql_grammar.specs.Language.{language, ReadsAs}
use Rattle.grammar_laws.specs.Grammar.{Trees}
use Rattle.grammar_laws.specs.Grammar.Symbol.{rule, mark}
use Rattle.grammar_laws.specs.BySymbols.{OfSymbols}
use Rattle.grammar_laws.specs.Alternatives.{IndexOf, at, grammar_of}

-- basic = "(" test ")" | EXISTS "(" select ")" | expr compare expr | expr IS [NOT] NULL
--       | expr [NOT] BETWEEN expr AND expr | expr [NOT] IN "(" (select | list(expr)) ")"
abbrev pub basic : List (Production r.Basic)
basic =
    way (sign s.Open ∷ mark Enter ∷ rule r.Test ∷ sign s.Close ∷ mark Leave ∷ []) (λ _ inner _. test.Parens inner)
    ∷ way (reserved w.Exists ∷ mark Enter ∷ sign s.Open ∷ reserved w.Select ∷ rule r.Select ∷ sign s.Close ∷ mark Leave ∷ []) (λ _ _ _ select _. test.Exists select)
    ∷ way (rule r.Expr ∷ rule r.CompareSign ∷ rule r.Expr ∷ []) (λ left sign right. test.Compare left sign right)
    ∷ way (rule r.Expr ∷ reserved w.Is ∷ rule r.OptionalNot ∷ reserved w.Null ∷ []) (λ left _ negated _. test.IsNull left negated)
    ∷ way (rule r.Expr ∷ rule r.OptionalNot ∷ reserved w.Between ∷ rule r.Expr ∷ reserved w.And ∷ rule r.Expr ∷ []) (λ left negated _ low _ high. test.Between left negated low high)
    ∷ way (rule r.Expr ∷ rule r.OptionalNot ∷ reserved w.In ∷ sign s.Open ∷ mark Enter ∷ reserved w.Select ∷ rule r.Select ∷ sign s.Close ∷ mark Leave ∷ [])
    (λ left negated _ _ _ select _. test.InQuery left negated select)
    ∷ way (rule r.Expr ∷ rule r.OptionalNot ∷ reserved w.In ∷ sign s.Open ∷ mark Enter ∷ rule r.Exprs ∷ sign s.Close ∷ mark Leave ∷ [])
    (λ left negated _ _ exprs _. test.InList left negated exprs) ∷ []

-- The lexemes are a text of one of the productions and stand for the tree, and what is noted leads from
-- s to t: they can be cut into the pieces of its symbols, and the piece of a rule reads.
abbrev pub IsWritten : List ℕ → {a : Rule} → List (Production a) → List Terminal → Tree a → Noted → Noted → Type 0
IsWritten text productions w tree s t =
    (p : IndexOf productions) × (values : Trees Terminal Tree (at productions p).symbols) × (tree ≡ (at productions p).build values)
    × OfSymbols (grammar_of (language text)) (ReadsAs text) (at productions p).symbols w values s t
