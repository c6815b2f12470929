-- What may come next where symbols stand behind one another.
use Rattle.std.specs.Prelude.{◌≡◌, true, ◌&&◌, List, [], ◌∷◌, ◌++◌, ◌⊎◌, refl}
use Rattle.std.proofs.Common.{inl, inr}
use Rattle.grammar_laws.specs.Grammar.{Symbol, Grammar}
use Rattle.grammar_laws.specs.Grammar.Symbol.{lexeme, rule, mark}
use Rattle.grammar_laws.specs.Lookahead.{Lookahead, begins, empties, KeepsFollow, KeepsFollowIn, HasNoBinding, BindsAtFront}
use Rattle.grammar_laws.proofs.Booleans.{or_true, and_true, or_left, or_right, and_both}

module _ {Lexeme Class Rule Mark State : Type 0} (g : Grammar Lexeme Class Rule Mark State) (a : Lookahead Lexeme Class Rule g.Production) where
  abbrev Symbols : Type 0
  Symbols = List (Symbol Class Rule Mark)

  pub begins_append : (x y : Symbols) (l : Lexeme) → begins g a (x ++ y) l ≡ true → (begins g a x l ≡ true) ⊎ ((empties g a x ≡ true) × (begins g a y l ≡ true))
  begins_append [] y l e = inr (refl, e)
  begins_append (lexeme c ∷ x) y l e = inl e
  begins_append (mark m ∷ x) y l e = begins_append x y l e
  begins_append (rule r ∷ x) y l e =
      elim (or_true (a.first r l) (a.nullable r && begins g a (x ++ y) l) e) [
        | inl f ↦ inl (or_left (a.first r l) (a.nullable r && begins g a x l) f)
        | inr f ↦ let h = and_true (a.nullable r) (begins g a (x ++ y) l) f in
            elim (begins_append x y l h.1) [
              | inl b ↦ inl (or_right (a.first r l) (a.nullable r && begins g a x l) (and_both (a.nullable r) (begins g a x l) h.0 b))
              | inr b ↦ inr (and_both (a.nullable r) (empties g a x) h.0 b.0, b.1)
            ]
      ]

  pub empties_append : (x y : Symbols) → empties g a (x ++ y) ≡ true → (empties g a x ≡ true) × (empties g a y ≡ true)
  empties_append [] y e = (refl, e)
  empties_append (lexeme c ∷ x) y e = absurd (cc)
  empties_append (mark m ∷ x) y e = empties_append x y e
  empties_append (rule r ∷ x) y e =
      let h = and_true (a.nullable r) (empties g a (x ++ y)) e in
      let b = empties_append x y h.1 in
      (and_both (a.nullable r) (empties g a x) h.0 b.0, b.1)

  -- a production in its rule's place has followers alone behind its rules
  pub follows_push : (r : Rule) (x is : Symbols) → KeepsFollowIn g a r x → ((l : Lexeme) → begins g a is l ≡ true → a.follow r l ≡ true) → KeepsFollow g a is → KeepsFollow g a (x ++ is)
  follows_push r [] is f after k = k
  follows_push r (lexeme c ∷ x) is f after k = follows_push r x is f after k
  follows_push r (mark m ∷ x) is f after k = follows_push r x is f after k
  follows_push r (rule q ∷ x) is f after k =
      ((λ l e. elim (begins_append x is l e) [ inl h ↦ f.0 l h | inr h ↦ f.1 h.0 l (after l h.1) ]), follows_push r x is f.2 after k)

  pub unbound_append : (x y : Symbols) → HasNoBinding g a x → HasNoBinding g a y → HasNoBinding g a (x ++ y)
  unbound_append [] y m n = n
  unbound_append (lexeme c ∷ x) y m n = (m.0, unbound_append x y m.1 n)
  unbound_append (rule r ∷ x) y m n = unbound_append x y m n
  unbound_append (mark c ∷ x) y m n = unbound_append x y m n

  pub unbound_binds : (x : Symbols) → HasNoBinding g a x → BindsAtFront g a x
  unbound_binds [] m = m
  unbound_binds (lexeme c ∷ x) m = unbound_binds x m.1
  unbound_binds (rule r ∷ x) m = m
  unbound_binds (mark c ∷ x) m = m

  pub binds_append : (x y : Symbols) → BindsAtFront g a x → HasNoBinding g a y → BindsAtFront g a (x ++ y)
  binds_append [] y m n = unbound_binds y n
  binds_append (lexeme c ∷ x) y m n = binds_append x y m n
  binds_append (rule r ∷ x) y m n = unbound_append x y m n
  binds_append (mark c ∷ x) y m n = unbound_append x y m n
