-- Whatever is expected has a text, which the shortest productions give.
use Rattle.std.specs.Prelude.{◌≡◌, ℕ, zero, suc, ◌+◌, true, false, List, [], ◌∷◌, ◌++◌, refl}
use Rattle.std.proofs.Common.{sym, subst, arith}
use Rattle.grammar_laws.specs.Grammar.{Symbol, Trees, join, Grammar, Derives, Matches, next}
use Rattle.grammar_laws.specs.Grammar.Symbol.{lexeme, rule, mark}
use Rattle.grammar_laws.specs.Lookahead.{Lookahead, HasNoBinding, BindsAtFront}
use Rattle.grammar_laws.specs.Predictive.{IsProductive, total}
use Rattle.grammar_laws.proofs.Begins.{unbound_append}
use Rattle.grammar_laws.proofs.Joined.{apart}

module _ {Class Rule Mark : Type 0} where
  total_append : (size : Rule → ℕ) (x y : List (Symbol Class Rule Mark)) → total size (x ++ y) ≡ total size x + total size y
  total_append size [] y = omega arith
  total_append size (lexeme c ∷ x) y = omega (arith, total_append size x y)
  total_append size (mark m ∷ x) y = omega (arith, total_append size x y)
  total_append size (rule r ∷ x) y = omega (arith, total_append size x y)

module _ {Lexeme Class Rule Mark State : Type 0} (g : Grammar Lexeme Class Rule Mark State) where
  abbrev Symbols : Type 0
  Symbols = List (Symbol Class Rule Mark)

  abbrev Vs : Symbols → Type 0
  Vs = Trees Lexeme g.Tree

  noted_in : (h : ℕ) (m : Mark) (is : Symbols) (w : List Lexeme) (s t : State) (vs : Vs is) → Derives g h is w vs (g.note s m) t → Derives g (suc h) (mark m ∷ is) w vs s t
  noted_in h m is [] s t vs d = d
  noted_in h m is (l ∷ w) s t vs d = d

  opened_in : (h : ℕ) (r : Rule) (p : g.Production r) (is : Symbols) (w : List Lexeme) (s t : State) (xs : Vs (g.symbols r p)) (vs : Vs is) → g.allows r p (next w) ≡ true
      → Derives g h (g.symbols r p ++ is) w (join Lexeme g.Tree (g.symbols r p) is xs vs) s t → Derives g (suc h) (rule r ∷ is) w (g.build r p xs, vs) s t
  opened_in h r p is [] s t xs vs m d = (p, xs, refl, m, d)
  opened_in h r p is (l ∷ w) s t xs vs m d = (p, xs, refl, m, d)

  module _ (a : Lookahead Lexeme Class Rule g.Production) where
    -- a text is empty, or begins with the sample of what is not binding
    Mild : IsProductive g a → List Lexeme → Type 0
    Mild p [] = Unit {0}
    Mild p (l ∷ w) = (c : Class) × (a.binding c ≡ false) × (l ≡ p.sample c)

    mild_allows : (p : IsProductive g a) (r : Rule) (w : List Lexeme) → Mild p w → g.allows r (p.shortest r) (next w) ≡ true
    unfolding Mild
    mild_allows p r [] m = p.allowed_last r
    mild_allows p r (l ∷ w) m = rw m.2 (p.allowed r m.0 m.1)

    mild_nil : (p : IsProductive g a) → Mild p []
    unfolding Mild
    mild_nil p = tt

    mild_cons : (p : IsProductive g a) (c : Class) (w : List Lexeme) → a.binding c ≡ false → Mild p (p.sample c ∷ w)
    unfolding Mild
    mild_cons p c w e = (c, e, refl)

    alive_unbound : (p : IsProductive g a) (h : ℕ) (is : Symbols) (s : State) → HasNoBinding g a is → total p.size is ≡ h
        → (w : List Lexeme) × (t : State) × (vs : Vs is) × Derives g h is w vs s t × Mild p w
    alive_unbound p h [] s y e = ([], s, tt, refl, mild_nil p)
    alive_unbound p zero (lexeme c ∷ is) s y e = absurd (omega arith)
    alive_unbound p zero (mark m ∷ is) s y e = absurd (omega arith)
    alive_unbound p zero (rule r ∷ is) s y e = absurd (omega (arith, p.size_is r))
    alive_unbound p (suc h) (lexeme c ∷ is) s y e =
        let more = alive_unbound p h is (g.see s (p.sample c)) y.1 (omega arith) in
        (p.sample c ∷ more.0, more.1, (p.sample c, more.2), (p.sample_admitted c, refl, more.3), mild_cons p c more.0 y.0)
    alive_unbound p (suc h) (mark m ∷ is) s y e =
        let more = alive_unbound p h is (g.note s m) y (omega arith) in
        (more.0, more.1, more.2, noted_in h m is more.0 s more.1 more.2 more.3, more.4)
    alive_unbound p (suc h) (rule r ∷ is) s y e =
        let k : g.Production r = p.shortest r in
        let more = alive_unbound p h (g.symbols r k ++ is) s (unbound_append g a (g.symbols r k) is (p.unbound r) y)
        (omega (arith, p.size_is r, total_append p.size (g.symbols r k) is)) in
        let q = apart Lexeme g.Tree (g.symbols r k) is more.2 in (
          more.0,
          more.1,
          (g.build r k q.0, q.1),
          opened_in h r k is more.0 s more.1 q.0 q.1 (mild_allows p r more.0 more.4)
              (subst (λ (u : Vs (g.symbols r k ++ is)). Derives g h (g.symbols r k ++ is) more.0 u s more.1) (sym q.2) more.3),
          more.4,
        )

    pub alive : IsProductive g a → (is : Symbols) (s : State) → BindsAtFront g a is → (w : List Lexeme) × (t : State) × Matches g is w s t
    alive p [] s y = ([], s, (0, tt, refl))
    alive p (lexeme c ∷ is) s y =
        let more = alive p is (g.see s (p.sample c)) y in
        (p.sample c ∷ more.0, more.1, (suc more.2.0, (p.sample c, more.2.1), (p.sample_admitted c, refl, more.2.2)))
    alive p (rule r ∷ is) s y =
        let x = alive_unbound p (total p.size (rule r ∷ is)) (rule r ∷ is) s y refl in (x.0, x.1, (total p.size (rule r ∷ is), x.2, x.3))
    alive p (mark m ∷ is) s y =
        let x = alive_unbound p (total p.size (mark m ∷ is)) (mark m ∷ is) s y refl in (x.0, x.1, (total p.size (mark m ∷ is), x.2, x.3))
