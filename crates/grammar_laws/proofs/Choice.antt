-- The production of any reading is the one that the next lexeme chooses.
use Rattle.std.specs.Prelude.{◌≡◌, ℕ, zero, suc, true, ◌&&◌, List, [], ◌∷◌, ◌++◌, Some, None, refl}
use Rattle.std.proofs.Common.{ap, sym, ◌∙◌, subst, inl, inr}
use Rattle.grammar_laws.specs.Grammar.{Symbol, Trees, join, Grammar, Derives, Matches, next}
use Rattle.grammar_laws.specs.Grammar.Symbol.{lexeme, rule, mark}
use Rattle.grammar_laws.specs.Lookahead.{Lookahead, begins, empties, KeepsFollow}
use Rattle.grammar_laws.specs.Predictive.{IsPredictive}
use Rattle.grammar_laws.proofs.Booleans.{or_left, or_right, and_both}
use Rattle.grammar_laws.proofs.Begins.{begins_append, empties_append, follows_push}
use Rattle.grammar_laws.proofs.Joined.{join_injective}

module _ {Lexeme Class Rule Mark State : Type 0} (g : Grammar Lexeme Class Rule Mark State) (a : Lookahead Lexeme Class Rule g.Production) where
  abbrev Symbols : Type 0
  Symbols = List (Symbol Class Rule Mark)

  abbrev Vs : Symbols → Type 0
  Vs = Trees Lexeme g.Tree

  abbrev both : (x y : Symbols) → Vs x → Vs y → Vs (x ++ y)
  both = join Lexeme g.Tree

  pub begins_so : IsPredictive g a → (h : ℕ) (is : Symbols) (l : Lexeme) (w : List Lexeme) (vs : Vs is) (s t : State) → Derives g h is (l ∷ w) vs s t → begins g a is l ≡ true
  begins_so c h [] l w vs s t d = absurd d
  begins_so c zero (i ∷ is) l w vs s t d = absurd d
  begins_so c (suc h) (lexeme x ∷ is) l w vs s t d = d.0
  begins_so c (suc h) (mark m ∷ is) l w vs s t d = begins_so c h is l w vs (g.note s m) t d
  begins_so c (suc h) (rule r ∷ is) l w vs s t (p, xs, e, m, d) =
      elim (begins_append g a (g.symbols r p) is l (begins_so c h (g.symbols r p ++ is) l w _ s t d)) [
        | inl f ↦ or_left (a.first r l) (a.nullable r && begins g a is l) (c.starts r p l f).0
        | inr f ↦ or_right (a.first r l) (a.nullable r && begins g a is l) (and_both (a.nullable r) (begins g a is l) (c.ends r p f.0).0 f.1)
      ]

  ends_so : IsPredictive g a → (h : ℕ) (is : Symbols) (vs : Vs is) (s t : State) → Derives g h is [] vs s t → empties g a is ≡ true
  ends_so c h [] vs s t d = refl
  ends_so c zero (i ∷ is) vs s t d = absurd d
  ends_so c (suc h) (lexeme x ∷ is) vs s t d = absurd d
  ends_so c (suc h) (mark m ∷ is) vs s t d = ends_so c h is vs (g.note s m) t d
  ends_so c (suc h) (rule r ∷ is) vs s t (p, xs, e, m, d) =
      let n = empties_append g a (g.symbols r p) is (ends_so c h (g.symbols r p ++ is) _ s t d) in
      and_both (a.nullable r) (empties g a is) (c.ends r p n.0).0 n.1

  pub chosen : IsPredictive g a → (h : ℕ) (r : Rule) (p : g.Production r) (is : Symbols) (w : List Lexeme) (us : Vs (g.symbols r p ++ is)) (s t : State)
      → KeepsFollow g a (rule r ∷ is) → g.allows r p (next w) ≡ true → Derives g h (g.symbols r p ++ is) w us s t → a.choose r (next w) ≡ Some p
  chosen c h r p is [] us s t k m d =
      (c.ends r p (empties_append g a (g.symbols r p) is (ends_so c h (g.symbols r p ++ is) us s t d)).0).1
  chosen c h r p is (l ∷ w) us s t k m d =
      elim (begins_append g a (g.symbols r p) is l (begins_so c h (g.symbols r p ++ is) l w us s t d)) [
        | inl f ↦ (c.starts r p l f).1 m
        | inr f ↦ c.skips r p l f.0 m (k.0 l f.1)
      ]

  pub follows_opened : IsPredictive g a → (r : Rule) (p : g.Production r) (is : Symbols) → KeepsFollow g a (rule r ∷ is) → KeepsFollow g a (g.symbols r p ++ is)
  follows_opened c r p is k = follows_push g a r (g.symbols r p) is (c.follows r p) k.0 k.1

  -- a rule is replaced by the production that is chosen
  pub replaced : IsPredictive g a → (r : Rule) (p : g.Production r) (is : Symbols) (w : List Lexeme) (s t : State) → KeepsFollow g a (rule r ∷ is) → a.choose r (next w) ≡ Some p
      → Matches g (rule r ∷ is) w s t → Matches g (g.symbols r p ++ is) w s t
  replaced c r p is [] s t k e (zero, vs, d) = absurd d
  replaced c r p is (l ∷ w) s t k e (zero, vs, d) = absurd d
  replaced c r p is [] s t k e (suc h, vs, (q, xs, f, m, d)) =
      let same : q ≡ p = let it = chosen c h r q is [] _ s t k m d in cc in
      subst (λ (q : g.Production r). Matches g (g.symbols r q ++ is) [] s t) same (h, both (g.symbols r q) is xs vs.1, d)
  replaced c r p is (l ∷ w) s t k e (suc h, vs, (q, xs, f, m, d)) =
      let same : q ≡ p = let it = chosen c h r q is (l ∷ w) _ s t k m d in cc in
      subst (λ (q : g.Production r). Matches g (g.symbols r q ++ is) (l ∷ w) s t) same (h, both (g.symbols r q) is xs vs.1, d)

  -- where no production is chosen, none reads
  pub unreplaced : IsPredictive g a → (r : Rule) (is : Symbols) (w : List Lexeme) (s t : State) → KeepsFollow g a (rule r ∷ is) → a.choose r (next w) ≡ None → Matches g (rule r ∷ is) w s t → ⊥
  unreplaced c r is [] s t k e (zero, vs, d) = absurd d
  unreplaced c r is (l ∷ w) s t k e (zero, vs, d) = absurd d
  unreplaced c r is [] s t k e (suc h, vs, (q, xs, f, m, d)) = let it = chosen c h r q is [] _ s t k m d in cc
  unreplaced c r is (l ∷ w) s t k e (suc h, vs, (q, xs, f, m, d)) = let it = chosen c h r q is (l ∷ w) _ s t k m d in cc

  -- Law, one reading: no text stands for two things, nor leads to two states.
  pub one_reading : IsPredictive g a → (h j : ℕ) (is : Symbols) (w : List Lexeme) (us vs : Vs is) (s t t' : State) → KeepsFollow g a is
      → Derives g h is w us s t → Derives g j is w vs s t' → (us ≡ vs) × (t ≡ t')
  one_reading c h j [] [] us vs s t t' k d e = (refl, d ∙ sym e)
  one_reading c h j [] (l ∷ w) us vs s t t' k d e = absurd d
  one_reading c zero j (i ∷ is) w us vs s t t' k d e = absurd d
  one_reading c (suc h) zero (i ∷ is) w us vs s t t' k d e = absurd e
  one_reading c (suc h) (suc j) (lexeme x ∷ is) [] us vs s t t' k d e = absurd d
  one_reading c (suc h) (suc j) (lexeme x ∷ is) (l ∷ w) us vs s t t' k d e =
      let p = one_reading c h j is w us.1 vs.1 (g.see s l) t t' k d.2 e.2 in
      let q : us.0 ≡ vs.0 = d.1 ∙ sym e.1 in
      ((λ i. (q i, p.0 i)), p.1)
  one_reading c (suc h) (suc j) (mark m ∷ is) [] us vs s t t' k d e = one_reading c h j is [] us vs (g.note s m) t t' k d e
  one_reading c (suc h) (suc j) (mark m ∷ is) (l ∷ w) us vs s t t' k d e = one_reading c h j is (l ∷ w) us vs (g.note s m) t t' k d e
  one_reading c (suc h) (suc j) (rule r ∷ is) [] us vs s t t' k (p, xs, e, m, d) (p', xs', e', m', d') =
      let same : p ≡ p' = let it = chosen c h r p is [] _ s t k m d in let it' = chosen c j r p' is [] _ s t' k m' d' in cc in
      let moved = subst (λ (q : g.Production r). (x : Vs (g.symbols r q)) × (vs.0 ≡ g.build r q x) × Derives g j (g.symbols r q ++ is) [] (both (g.symbols r q) is x vs.1) s t') (sym same) (xs', e', d') in
      let all = one_reading c h j (g.symbols r p ++ is) [] _ _ s t t' (follows_opened c r p is k) d moved.2 in
      let y = join_injective Lexeme g.Tree (g.symbols r p) is xs moved.0 us.1 vs.1 all.0 in
      let q : us.0 ≡ vs.0 = e ∙ ap (g.build r p) y.0 ∙ sym moved.1 in
      ((λ i. (q i, y.1 i)), all.1)
  one_reading c (suc h) (suc j) (rule r ∷ is) (l ∷ w) us vs s t t' k (p, xs, e, m, d) (p', xs', e', m', d') =
      let same : p ≡ p' = let it = chosen c h r p is (l ∷ w) _ s t k m d in let it' = chosen c j r p' is (l ∷ w) _ s t' k m' d' in cc in
      let moved = subst (λ (q : g.Production r). (x : Vs (g.symbols r q)) × (vs.0 ≡ g.build r q x) × Derives g j (g.symbols r q ++ is) (l ∷ w) (both (g.symbols r q) is x vs.1) s t') (sym same) (xs', e', d') in
      let all = one_reading c h j (g.symbols r p ++ is) (l ∷ w) _ _ s t t' (follows_opened c r p is k) d moved.2 in
      let y = join_injective Lexeme g.Tree (g.symbols r p) is xs moved.0 us.1 vs.1 all.0 in
      let q : us.0 ≡ vs.0 = e ∙ ap (g.build r p) y.0 ∙ sym moved.1 in
      ((λ i. (q i, y.1 i)), all.1)
