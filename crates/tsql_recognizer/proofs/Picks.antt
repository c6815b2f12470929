-- What is picked by symbols is the production that the grammar chooses.
use Rattle.std.specs.Prelude.{◌≡◌, ℕ, zero, suc, Bool, true, false, List, [], ◌∷◌, map, Option, Some, None, if◌then◌else◌, refl}
use Rattle.std.proofs.Common.{ap, sym, ◌∙◌}
use Rattle.tsql_grammar.specs.declared.kind.Function.TheVariants as f
use Rattle.tsql_grammar.specs.declared.kind.Kind.{Kind}
use Rattle.tsql_grammar.specs.declared.rule.Rule.{Rule}
use Rattle.tsql_grammar.specs.declared.rule.Rule.TheVariants as r
use Rattle.tsql_grammar.specs.Language.{language}
use Rattle.tsql_grammar.specs.Lookahead.{first, nullable}
use Rattle.tsql_grammar.specs.Productions.{Symbols, Production, productions}
use Rattle.tsql_recognizer.specs.Stack.{first_begun, first_empty, or_empty, pick, symbols_of_rule}
use Rattle.tsql_grammar.specs.Terminals.{admits}
use Rattle.grammar_laws.specs.Alternatives.{IndexOf, at, behind, first_where, or_else, choose}
use Rattle.grammar_laws.specs.Lookahead.{begins_by, empties_by}

module _ (a : Rule) where
  abbrev symbols : List (Production a) → List Symbols
  symbols ways = map (λ p. p.symbols) ways

  -- the symbols of the production with an index
  abbrev pub symbols_at : (ways : List (Production a)) → Option (IndexOf ways) → Option Symbols
  symbols_at ways None = None
  symbols_at ways (Some i) = Some (at ways i).symbols

  behind_at : (p : Production a) (ways : List (Production a)) (o : Option (IndexOf ways)) → symbols_at ways o ≡ symbols_at (p ∷ ways) (behind p ways o)
  behind_at p ways None = refl
  behind_at p ways (Some i) = refl

  one_more : (p : Production a) (ways : List (Production a)) (o : Option (IndexOf ways)) (more : Option Symbols) (b : Bool) → more ≡ symbols_at ways o
      → (if b then Some p.symbols else more) ≡ symbols_at (p ∷ ways) (if b then Some None else behind p ways o)
  one_more p ways o more true e = refl
  one_more p ways o more false e = e ∙ behind_at p ways o

  begun_at : (ways : List (Production a)) (k : Kind) → first_begun (symbols ways) k ≡ symbols_at ways (first_where (λ p. begins_by admits first nullable p.symbols k) ways)
  begun_at [] k = refl
  begun_at (p ∷ ways) k =
      one_more p ways (first_where (λ p. begins_by admits first nullable p.symbols k) ways) (first_begun (symbols ways) k) (begins_by admits first nullable p.symbols k) (begun_at ways k)

  empty_at : (ways : List (Production a)) → first_empty (symbols ways) ≡ symbols_at ways (first_where (λ p. empties_by nullable p.symbols) ways)
  empty_at [] = refl
  empty_at (p ∷ ways) = one_more p ways (first_where (λ p. empties_by nullable p.symbols) ways) (first_empty (symbols ways)) (empties_by nullable p.symbols) (empty_at ways)

  either_at : (ways : List (Production a)) (o : Option (IndexOf ways)) → or_empty (symbols_at ways o) (symbols ways) ≡ symbols_at ways (or_else o (first_where (λ p. empties_by nullable p.symbols) ways))
  either_at ways None = empty_at ways
  either_at ways (Some i) = refl

  pick_at : (text : List ℕ) (next : Option Kind) → pick (symbols (productions text a)) next ≡ symbols_at (productions text a) (choose (language text) a next)
  pick_at text None = empty_at (productions text a)
  pick_at text (Some k) =
      ap (λ o. or_empty o (symbols (productions text a))) (begun_at (productions text a) k)
      ∙ either_at (productions text a) (first_where (λ p. begins_by admits first nullable p.symbols k) (productions text a))

-- the symbols do not depend on the batch's text
text_free : (text : List ℕ) (a : Rule) → symbols a (productions text a) ≡ symbols_of_rule a
text_free text (r.Compared zero) = refl
text_free text (r.Compared (suc n)) = refl
text_free text (r.Tested zero) = refl
text_free text (r.Tested (suc n)) = refl
text_free text (r.FunctionArguments f.Cast) = refl
text_free text (r.FunctionArguments _) = refl
text_free text r.Batch = refl
text_free text _ = refl

-- what is picked is what the grammar chooses
pub picks : (text : List ℕ) (a : Rule) (next : Option Kind) → pick (symbols_of_rule a) next ≡ symbols_at a (productions text a) (choose (language text) a next)
picks text a next = ap (λ ways. pick ways next) (sym (text_free text a)) ∙ pick_at a text next
