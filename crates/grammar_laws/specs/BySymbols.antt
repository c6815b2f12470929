-- Own: the same texts by their pieces: a text is of a production where it can be cut into one piece
-- for each symbol, as a grammar is commonly read. `Reads` says it by rewriting in place; the lemmas of
-- proofs/Cuts.antt tie the two, so that a grammar may be believed by this file.
use Rattle.std.specs.Prelude.{◌≡◌, ℕ, zero, suc, true, List, [], ◌∷◌, ◌++◌}
use Rattle.grammar_laws.specs.Grammar.{Symbol, Trees, Grammar}
use Rattle.grammar_laws.specs.Grammar.Symbol.{lexeme, rule, mark}

module _ {Lexeme Class Rule Mark State : Type 0} (g : Grammar Lexeme Class Rule Mark State) where
  -- what it is to be a text of one rule, and to stand for a value
  abbrev pub OfRule : Type 1
  OfRule = (r : Rule) → List Lexeme → g.Tree r → State → State → Type 0

  -- the text is cut into the pieces of the symbols, one after another
  abbrev pub OfSymbols : OfRule → (is : List (Symbol Class Rule Mark)) → List Lexeme → Trees Lexeme g.Tree is → State → State → Type 0
  OfSymbols of [] w vs s t = (w ≡ []) × (t ≡ s)
  OfSymbols of (lexeme c ∷ is) w vs s t = (u : List Lexeme) × (w ≡ vs.0 ∷ u) × (g.admits c vs.0 ≡ true) × OfSymbols of is u vs.1 (g.see s vs.0) t
  OfSymbols of (mark m ∷ is) w vs s t = OfSymbols of is w vs (g.note s m) t
  OfSymbols of (rule r ∷ is) w vs s t =
      (u : List Lexeme) × (v : List Lexeme) × (m : State) × (w ≡ u ++ v) × of r u vs.0 s m × OfSymbols of is v vs.1 m t

  -- by a tree of at most h productions above one another
  abbrev pub Within : ℕ → OfRule
  Within zero r w v s t = ⊥
  Within (suc h) r w v s t = (p : g.Production r) × (vs : Trees Lexeme g.Tree (g.symbols r p)) × (v ≡ g.build r p vs) × OfSymbols (Within h) (g.symbols r p) w vs s t

  -- The text is of the rule, and stands for the value.
  abbrev pub IsOf : OfRule
  IsOf r w v s t = (h : ℕ) × Within h r w v s t
