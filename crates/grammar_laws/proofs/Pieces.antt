-- Laws: the pieces of a text in passing. To cut a text wants a name and an equation for each piece. Here
-- a text begins with a piece of a rule, and a fact holds of its tree, of the text behind it and of what
-- was noted by then; so one piece after another is one fact within another.
use Rattle.std.specs.Prelude.{◌≡◌, ℕ, zero, suc, true, List, [], ◌∷◌, ◌++◌, refl}
use Rattle.std.proofs.Common.{ap, sym, ◌∙◌, subst, append_assoc}
use Rattle.grammar_laws.specs.Grammar.{Symbol, Trees, Grammar}
use Rattle.grammar_laws.specs.Grammar.Symbol.{lexeme, rule, mark}
use Rattle.grammar_laws.specs.BySymbols.{OfRule, OfSymbols, Within, IsOf}
use Rattle.grammar_laws.proofs.Cuts.{by_production}

module _ {Lexeme Class Rule Mark State : Type 0} (g : Grammar Lexeme Class Rule Mark State) where
  abbrev Symbols : Type 0
  Symbols = List (Symbol Class Rule Mark)

  abbrev Vs : Symbols → Type 0
  Vs = Trees Lexeme g.Tree

  -- a fact of a value, of the text behind its piece, and of what was noted
  abbrev pub Fact : Type 0 → Type 1
  Fact A = A → List Lexeme → State → Type 0

  -- how a text may begin with a piece of a rule
  abbrev pub OfRuleThen : Type 1
  OfRuleThen = (r : Rule) → List Lexeme → State → Fact (g.Tree r) → Type 0

  -- the text begins with a piece of each symbol, and then the fact holds
  abbrev pub SymbolsThen : OfRuleThen → (is : Symbols) → List Lexeme → State → Fact (Vs is) → Type 0
  SymbolsThen of [] w s K = K tt w s
  SymbolsThen of (lexeme c ∷ is) w s K = (l : Lexeme) × (u : List Lexeme) × (w ≡ l ∷ u) × (g.admits c l ≡ true) × SymbolsThen of is u (g.see s l) (λ vs. K (l, vs))
  SymbolsThen of (mark m ∷ is) w s K = SymbolsThen of is w (g.note s m) K
  SymbolsThen of (rule r ∷ is) w s K = of r w s (λ v u m. SymbolsThen of is u m (λ vs. K (v, vs)))

  -- by a tree of at most h productions above one another
  abbrev pub WithinThen : ℕ → OfRuleThen
  WithinThen zero r w s K = ⊥
  WithinThen (suc h) r w s K = (p : g.Production r) × SymbolsThen (WithinThen h) (g.symbols r p) w s (λ vs. K (g.build r p vs))

  -- the text is cut behind a piece, and then the fact holds
  abbrev pub CutThen : {A : Type 0} → (List Lexeme → A → State → State → Type 0) → List Lexeme → State → Fact A → Type 0
  CutThen {A = A} of w s K = (v : A) × (u : List Lexeme) × (rest : List Lexeme) × (t : State) × (w ≡ u ++ rest) × of u v s t × K v rest t

  -- a piece of the rule, by any tree
  abbrev pub Then : OfRuleThen
  Then r w s K = CutThen (IsOf g r) w s K

  pub cut_symbols : (of : OfRule g) (one : OfRuleThen) → ((r : Rule) (w : List Lexeme) (s : State) (K : Fact (g.Tree r)) → one r w s K → CutThen (of r) w s K)
      → (is : Symbols) (w : List Lexeme) (s : State) (K : Fact (Vs is)) → SymbolsThen one is w s K → CutThen (OfSymbols g of is) w s K
  cut_symbols of one f [] w s K d = (tt, [], w, s, refl, (refl, refl), d)
  cut_symbols of one f (lexeme c ∷ is) w s K (l, u, e, a, d) =
      let (vs, x, rest, t, e2, o, k) = cut_symbols of one f is u (g.see s l) (λ vs. K (l, vs)) d in
      ((l, vs), l ∷ x, rest, t, e ∙ ap (λ (z : List Lexeme). l ∷ z) e2, (x, refl, a, o), k)
  cut_symbols of one f (mark m ∷ is) w s K d = cut_symbols of one f is w (g.note s m) K d
  cut_symbols of one f (rule r ∷ is) w s K d =
      let (v, x, y, m, e, o, d2) = f r w s (λ v u m. SymbolsThen one is u m (λ vs. K (v, vs))) d in
      let (vs, x2, rest, t, e2, o2, k) = cut_symbols of one f is y m (λ vs. K (v, vs)) d2 in
      ((v, vs), x ++ x2, rest, t, e ∙ ap (λ (z : List Lexeme). x ++ z) e2 ∙ sym (append_assoc x x2 rest), (x, x2, m, refl, o, o2), k)

  cut_within : (h : ℕ) (r : Rule) (w : List Lexeme) (s : State) (K : Fact (g.Tree r)) → WithinThen h r w s K → CutThen (Within g h r) w s K
  cut_within zero r w s K d = absurd d
  cut_within (suc h) r w s K (p, d) =
      let (vs, u, rest, t, e, o, k) = cut_symbols (Within g h) (WithinThen h) (cut_within h) (g.symbols r p) w s (λ vs. K (g.build r p vs)) d in
      (g.build r p vs, u, rest, t, e, (p, vs, refl, o), k)

  -- of whatever tree, and what follows from the fact
  pub loosen : (h : ℕ) (r : Rule) (w : List Lexeme) (s : State) (K L : Fact (g.Tree r)) → ((v : g.Tree r) (u : List Lexeme) (m : State) → K v u m → L v u m)
      → WithinThen h r w s K → Then r w s L
  loosen h r w s K L f d = let (v, u, rest, t, e, o, k) = cut_within h r w s K d in (v, u, rest, t, e, (h, o), f v rest t k)

  pub weaken : (r : Rule) (w : List Lexeme) (s : State) (K L : Fact (g.Tree r)) → ((v : g.Tree r) (u : List Lexeme) (m : State) → K v u m → L v u m)
      → Then r w s K → Then r w s L
  weaken r w s K L f (v, u, rest, t, e, o, k) = (v, u, rest, t, e, o, f v rest t k)

  -- a piece of a rule, from the pieces of a production
  pub by : (r : Rule) (p : g.Production r) (w : List Lexeme) (s : State) (K : Fact (g.Tree r)) → SymbolsThen Then (g.symbols r p) w s (λ vs. K (g.build r p vs)) → Then r w s K
  by r p w s K d =
      let (vs, u, rest, t, e, o, k) = cut_symbols (IsOf g) Then (λ r w s K d. d) (g.symbols r p) w s (λ vs. K (g.build r p vs)) d in
      (g.build r p vs, u, rest, t, e, by_production g r p u vs s t o, k)

  pub of_symbols : (of : OfRule g) (one : OfRuleThen) → ((r : Rule) (u : List Lexeme) (v : g.Tree r) (s m : State) (rest : List Lexeme) (K : Fact (g.Tree r)) → of r u v s m → K v rest m → one r (u ++ rest) s K)
      → (is : Symbols) (u : List Lexeme) (vs : Vs is) (s t : State) (rest : List Lexeme) (K : Fact (Vs is)) → OfSymbols g of is u vs s t → K vs rest t → SymbolsThen one is (u ++ rest) s K
  of_symbols of one f [] u vs s t rest K (e, e2) k =
      subst (λ (z : List Lexeme). K tt (z ++ rest) s) (sym e) (subst (λ (z : State). K tt rest z) e2 k)
  of_symbols of one f (lexeme c ∷ is) u vs s t rest K (u2, e, a, d) k =
      (vs.0, u2 ++ rest, ap (λ (z : List Lexeme). z ++ rest) e, a, of_symbols of one f is u2 vs.1 (g.see s vs.0) t rest (λ x. K (vs.0, x)) d k)
  of_symbols of one f (mark m ∷ is) u vs s t rest K d k = of_symbols of one f is u vs (g.note s m) t rest K d k
  of_symbols of one f (rule r ∷ is) u vs s t rest K (u1, u2, m, e, o, d) k =
      subst (λ (z : List Lexeme). one r z s (λ v u m. SymbolsThen one is u m (λ vs. K (v, vs)))) (sym (ap (λ (z : List Lexeme). z ++ rest) e ∙ append_assoc u1 u2 rest))
      (f r u1 vs.0 s m (u2 ++ rest) (λ v u m. SymbolsThen one is u m (λ vs. K (v, vs))) o (of_symbols of one f is u2 vs.1 m t rest (λ x. K (vs.0, x)) d k))

  pub of_within : (h : ℕ) (r : Rule) (u : List Lexeme) (v : g.Tree r) (s m : State) (rest : List Lexeme) (K : Fact (g.Tree r)) → Within g h r u v s m → K v rest m → WithinThen h r (u ++ rest) s K
  of_within zero r u v s m rest K d k = absurd d
  of_within (suc h) r u v s m rest K (p, vs, e, d) k =
      (p, of_symbols (Within g h) (WithinThen h) (of_within h) (g.symbols r p) u vs s m rest (λ vs. K (g.build r p vs)) d (subst (λ (x : g.Tree r). K x rest m) e k))

  -- the productions of the trees of a piece
  pub within : (r : Rule) (w : List Lexeme) (s : State) (K : Fact (g.Tree r)) → Then r w s K → (h : ℕ) × WithinThen h r w s K
  within r w s K (v, u, rest, t, e, (h, o), k) = (h, subst (λ (z : List Lexeme). WithinThen h r z s K) (sym e) (of_within h r u v s t rest K o k))

  -- of a tree no higher
  pub loosened : (h : ℕ) (r : Rule) (w : List Lexeme) (s : State) (K L : Fact (g.Tree r)) → ((v : g.Tree r) (u : List Lexeme) (m : State) → K v u m → L v u m)
      → WithinThen h r w s K → WithinThen h r w s L
  loosened h r w s K L f d =
      let (v, u, rest, t, e, o, k) = cut_within h r w s K d in subst (λ (z : List Lexeme). WithinThen h r z s L) (sym e) (of_within h r u v s t rest L o (f v rest t k))

  pub weaken_symbols : (is : Symbols) (w : List Lexeme) (s : State) (K L : Fact (Vs is)) → ((vs : Vs is) (u : List Lexeme) (m : State) → K vs u m → L vs u m) → SymbolsThen Then is w s K → SymbolsThen Then is w s L
  weaken_symbols [] w s K L f d = f tt w s d
  weaken_symbols (lexeme c ∷ is) w s K L f (l, u, e, a, d) = (l, u, e, a, weaken_symbols is u (g.see s l) (λ vs. K (l, vs)) (λ vs. L (l, vs)) (λ vs. f (l, vs)) d)
  weaken_symbols (mark m ∷ is) w s K L f d = weaken_symbols is w (g.note s m) K L f d
  weaken_symbols (rule r ∷ is) w s K L f (v, u, rest, t, e, o, d) =
      (v, u, rest, t, e, o, weaken_symbols is rest t (λ vs. K (v, vs)) (λ vs. L (v, vs)) (λ vs. f (v, vs)) d)
