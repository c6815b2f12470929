-- Law: what reads, in any place, is what reading by descent gives.
use Rattle.std.specs.Prelude.{◌≡◌, ℕ, zero, suc, ◌≤◌, true, List, [], ◌∷◌, ◌++◌, Option, Some, None, refl}
use Rattle.std.proofs.Common.{ap, sym, ◌∙◌, subst, arith}
use Rattle.grammar_laws.specs.Grammar.{Symbol, Trees, join, Grammar, Derives, next}
use Rattle.grammar_laws.specs.Grammar.Symbol.{lexeme, rule, mark}
use Rattle.grammar_laws.specs.Lookahead.{Lookahead, KeepsFollow}
use Rattle.grammar_laws.specs.Predictive.{IsPredictive}
use Rattle.grammar_laws.specs.Descent.{read, read_all, ◌>>=◌}
use Rattle.grammar_laws.proofs.Joined.{join_injective}
use Rattle.grammar_laws.proofs.Choice.{chosen, follows_opened}

module _ {Lexeme Class Rule Mark State : Type 0} (g : Grammar Lexeme Class Rule Mark State) (a : Lookahead Lexeme Class Rule g.Production) where
  abbrev Symbols : Type 0
  Symbols = List (Symbol Class Rule Mark)

  abbrev Vs : Symbols → Type 0
  Vs = Trees Lexeme g.Tree

  abbrev both : (x y : Symbols) → Vs x → Vs y → Vs (x ++ y)
  both = join Lexeme g.Tree

  abbrev all : (B : Type 0) → ℕ → (is : Symbols) → List Lexeme → (Vs is → List Lexeme → Option B) → Option B
  all B n = read_all g a {B = B} (read g a n)

  -- the symbols x are read, and the rest is of the symbols behind them
  record Split (B : Type 0) (n h : ℕ) (x is : Symbols) (w : List Lexeme) (us : Vs (x ++ is)) (t : State) : Type 0 where
    values : Vs x
    after : Vs is
    rest : List Lexeme
    state : State
    count : ℕ
    less : count ≤ h
    gives : (k : Vs x → List Lexeme → Option B) → all B n x w k ≡ k values rest
    same : us ≡ both x is values after
    on : Derives g count is rest after state t

  lexeme_step : (B : Type 0) (n h : ℕ) (c : Class) (x is : Symbols) (l : Lexeme) (w : List Lexeme) (us : Vs (lexeme c ∷ (x ++ is))) (t : State)
      → g.admits c l ≡ true → us.0 ≡ l → Split B n h x is w us.1 t → Split B n (suc h) (lexeme c ∷ x) is (l ∷ w) us t
  lexeme_step B n h c x is l w us t f e y = record {
    values = (l, y.values);
    after = y.after;
    rest = y.rest;
    state = y.state;
    count = y.count;
    less = omega (arith, y.less);
    gives = λ k. rw f (y.gives (λ v rest. k (l, v) rest));
    same = λ i. (e i, y.same i);
    on = y.on;
  }

  rule_step : (B : Type 0) (n h : ℕ) (r : Rule) (p : g.Production r) (x is : Symbols) (w : List Lexeme) (us : Vs (rule r ∷ (x ++ is))) (t : State) → a.choose r (next w) ≡ Some p
      → (xs : Vs (g.symbols r p)) (rest : List Lexeme)
      → ((f : Vs (g.symbols r p) → List Lexeme → Option (g.Tree r × List Lexeme)) → all (g.Tree r × List Lexeme) n (g.symbols r p) w f ≡ f xs rest)
      → us.0 ≡ g.build r p xs → (j : ℕ) → j ≤ h → Split B (suc n) j x is rest us.1 t → Split B (suc n) (suc h) (rule r ∷ x) is w us t
  unfolding read
  rule_step B n h r p x is w us t f xs rest e same j le z = record {
    values = (g.build r p xs, z.values);
    after = z.after;
    rest = z.rest;
    state = z.state;
    count = z.count;
    less = omega (arith, z.less);
    gives = λ c. rw (f, e (λ v rest. Some (g.build r p v, rest))) (z.gives (λ v rest. c (g.build r p xs, v) rest));
    same = λ i. (same i, z.same i);
    on = z.on;
  }

  split : IsPredictive g a → (B : Type 0) (n h m : ℕ) → h ≤ m → m ≤ n → (x is : Symbols) (w : List Lexeme) (us : Vs (x ++ is)) (s t : State)
      → KeepsFollow g a (x ++ is) → Derives g h (x ++ is) w us s t → Split B n h x is w us t
  split c B n h m le lf [] is w us s t k d = record { values = tt; after = us; rest = w; state = s; count = h; less = omega arith; gives = λ f. refl; same = refl; on = d }
  split c B n zero m le lf (lexeme y ∷ x) is [] us s t k d = absurd d
  split c B n zero m le lf (lexeme y ∷ x) is (l ∷ w) us s t k d = absurd d
  split c B n (suc h) m le lf (lexeme y ∷ x) is [] us s t k d = absurd d
  split c B n (suc h) zero le lf (lexeme y ∷ x) is (l ∷ w) us s t k d = absurd (omega arith)
  split c B n (suc h) (suc m) le lf (lexeme y ∷ x) is (l ∷ w) us s t k d =
      lexeme_step B n h y x is l w us t d.0 d.1 (split c B n h m (omega arith) (omega arith) x is w us.1 (g.see s l) t k d.2)
  split c B n zero m le lf (mark y ∷ x) is w us s t k d = absurd d
  split c B n (suc h) zero le lf (mark y ∷ x) is w us s t k d = absurd (omega arith)
  split c B n (suc h) (suc m) le lf (mark y ∷ x) is w us s t k d =
      let z = split c B n h m (omega arith) (omega arith) x is w us (g.note s y) t k d in
      record { values = z.values; after = z.after; rest = z.rest; state = z.state; count = z.count; less = omega (arith, z.less); gives = z.gives; same = z.same; on = z.on }
  split c B n zero m le lf (rule r ∷ x) is w us s t k d = absurd d
  split c B n (suc h) zero le lf (rule r ∷ x) is w us s t k d = absurd (omega arith)
  split c B zero (suc h) (suc m) le lf (rule r ∷ x) is w us s t k d = absurd (omega arith)
  split c B (suc n) (suc h) (suc m) le lf (rule r ∷ x) is w us s t k (p, xs, e, ok, d) =
      let y = split c (g.Tree r × List Lexeme) n h m (omega arith) (omega arith) (g.symbols r p) (x ++ is) w (both (g.symbols r p) (x ++ is) xs us.1) s t
      (follows_opened g a c r p (x ++ is) k) d in
      let one = join_injective Lexeme g.Tree (g.symbols r p) (x ++ is) xs y.values us.1 y.after y.same in
      let z = split c B (suc n) y.count m (omega (arith, y.less)) (omega arith) x is y.rest y.after y.state t k.1 y.on in
      rule_step B n h r p x is w us t (chosen g a c h r p (x ++ is) w _ s t k ok d)
      y.values y.rest y.gives (e ∙ ap (g.build r p) one.0) y.count y.less (subst (λ (v : Vs (x ++ is)). Split B (suc n) y.count x is y.rest v t) (sym one.1) z)

  one : {A : Type 0} (o : Option (A × List Lexeme)) → ◌>>=◌ {A = A × List Lexeme} {B = A × List Lexeme} o (λ y. Some (y.0, y.1)) ≡ o
  one None = refl
  one (Some y) = refl

  ended : (h : ℕ) (rest : List Lexeme) (s t : State) → Derives g h [] rest tt s t → rest ≡ []
  ended h [] s t d = refl
  ended h (l ∷ w) s t d = absurd d

  -- a rule's text gives its value, and nothing is left
  pub complete : IsPredictive g a → (n h : ℕ) → h ≤ n → (r : Rule) (w : List Lexeme) (us : Vs (rule r ∷ [])) (s t : State)
      → KeepsFollow g a (rule r ∷ []) → Derives g h (rule r ∷ []) w us s t → read g a n r w ≡ Some (us.0, [])
  complete c n h le r w us s t k d =
      let y = split c (g.Tree r × List Lexeme) n h n le (omega arith) (rule r ∷ []) [] w us s t k d in
      sym (one (read g a n r w)) ∙ y.gives (λ v rest. Some (v.0, rest)) ∙ ap (λ (z : List Lexeme). Some (y.values.0, z)) (ended y.count y.rest y.state t y.on)
      ∙ ap (λ (v : Vs (rule r ∷ [])). Some (v.0, [])) (sym y.same)
