-- Laws: what reads can be cut into the pieces of its symbols; and what is so cut reads, where no
-- production below the rule is ever disallowed.
use Rattle.std.specs.Prelude.{◌≡◌, ℕ, zero, suc, ◌+◌, ◌≤◌, true, List, [], ◌∷◌, ◌++◌, Option, refl}
use Rattle.std.proofs.Common.{ap, sym, ◌∙◌, subst, append_assoc, append-nil, arith}
use Rattle.grammar_laws.specs.Grammar.{Symbol, Trees, join, Grammar, Derives, Reads, next}
use Rattle.grammar_laws.specs.Grammar.Symbol.{lexeme, rule, mark}
use Rattle.grammar_laws.specs.BySymbols.{OfRule, OfSymbols, Within, IsOf}
use Rattle.grammar_laws.proofs.Joined.{join_injective}

module _ {Lexeme Class Rule Mark State : Type 0} (g : Grammar Lexeme Class Rule Mark State) where
  abbrev Symbols : Type 0
  Symbols = List (Symbol Class Rule Mark)

  abbrev Vs : Symbols → Type 0
  Vs = Trees Lexeme g.Tree

  abbrev both : (x y : Symbols) → Vs x → Vs y → Vs (x ++ y)
  both = join Lexeme g.Tree

  pub lift : (one two : OfRule g) → ((r : Rule) (w : List Lexeme) (v : g.Tree r) (s t : State) → one r w v s t → two r w v s t)
      → (is : Symbols) (w : List Lexeme) (vs : Vs is) (s t : State) → OfSymbols g one is w vs s t → OfSymbols g two is w vs s t
  lift one two f [] w vs s t d = d
  lift one two f (lexeme c ∷ is) w vs s t (u, e, k, d) = (u, e, k, lift one two f is u vs.1 (g.see s vs.0) t d)
  lift one two f (mark m ∷ is) w vs s t d = lift one two f is w vs (g.note s m) t d
  lift one two f (rule r ∷ is) w vs s t (u, v, m, e, o, d) = (u, v, m, e, f r u vs.0 s m o, lift one two f is v vs.1 m t d)

  up : (h : ℕ) (r : Rule) (w : List Lexeme) (v : g.Tree r) (s t : State) → Within g h r w v s t → Within g (suc h) r w v s t
  up zero r w v s t d = absurd d
  up (suc h) r w v s t (p, vs, e, d) = (p, vs, e, lift (Within g h) (Within g (suc h)) (up h) (g.symbols r p) w vs s t d)

  suc-add : (j h : ℕ) → suc j + h ≡ suc (j + h)
  suc-add j h = omega arith

  zero-add : (h : ℕ) → 0 + h ≡ h
  zero-add h = omega arith

  turned : (j h : ℕ) → j + h ≡ h + j
  turned j h = omega arith

  ups : (j h : ℕ) (r : Rule) (w : List Lexeme) (v : g.Tree r) (s t : State) → Within g h r w v s t → Within g (j + h) r w v s t
  ups zero h r w v s t d = rw (zero-add h) d
  ups (suc j) h r w v s t d = rw (suc-add j h) (up (j + h) r w v s t (ups j h r w v s t d))

  -- one height for all symbols
  gather : (is : Symbols) (w : List Lexeme) (vs : Vs is) (s t : State) → OfSymbols g (IsOf g) is w vs s t → (h : ℕ) × OfSymbols g (Within g h) is w vs s t
  gather [] w vs s t d = (0, d)
  gather (lexeme c ∷ is) w vs s t (u, e, k, d) = let x = gather is u vs.1 (g.see s vs.0) t d in (x.0, (u, e, k, x.1))
  gather (mark m ∷ is) w vs s t d = gather is w vs (g.note s m) t d
  gather (rule r ∷ is) w vs s t (u, v, m, e, o, d) =
      let y = gather is v vs.1 m t d in (
        y.0 + o.0,
        (
          u,
          v,
          m,
          e,
          ups y.0 o.0 r u vs.0 s m o.1,
          lift (Within g y.0) (Within g (y.0 + o.0)) (λ r w v s t z. subst (λ (n : ℕ). Within g n r w v s t) (turned o.0 y.0) (ups o.0 y.0 r w v s t z)) is v vs.1 m t y.1,
        ),
      )

  -- a production of a rule, from its symbols
  pub by_production : (r : Rule) (p : g.Production r) (w : List Lexeme) (vs : Vs (g.symbols r p)) (s t : State)
      → OfSymbols g (IsOf g) (g.symbols r p) w vs s t → IsOf g r w (g.build r p vs) s t
  by_production r p w vs s t d = let x = gather (g.symbols r p) w vs s t d in (suc x.0, (p, vs, refl, x.1))

  -- the front is of the symbols x, and the rest of those behind them
  record Cut (h : ℕ) (x is : Symbols) (w : List Lexeme) (us : Vs (x ++ is)) (s t : State) : Type 0 where
    front : List Lexeme
    rest : List Lexeme
    values : Vs x
    after : Vs is
    state : State
    count : ℕ
    less : count ≤ h
    word : w ≡ front ++ rest
    same : us ≡ both x is values after
    by : OfSymbols g (IsOf g) x front values s state
    on : Derives g count is rest after state t

  cut : (h m : ℕ) → h ≤ m → (x is : Symbols) (w : List Lexeme) (us : Vs (x ++ is)) (s t : State) → Derives g h (x ++ is) w us s t → Cut h x is w us s t
  cut h m le [] is w us s t d =
      record { front = []; rest = w; values = tt; after = us; state = s; count = h; less = omega arith; word = refl; same = refl; by = (refl, refl); on = d }
  cut zero m le (lexeme c ∷ x) is [] us s t d = absurd d
  cut zero m le (lexeme c ∷ x) is (l ∷ w) us s t d = absurd d
  cut (suc h) m le (lexeme c ∷ x) is [] us s t d = absurd d
  cut (suc h) zero le (lexeme c ∷ x) is (l ∷ w) us s t d = absurd (omega arith)
  cut (suc h) (suc m) le (lexeme c ∷ x) is (l ∷ w) us s t d =
      let y = cut h m (omega arith) x is w us.1 (g.see s l) t d.2 in
      record {
        front = l ∷ y.front;
        rest = y.rest;
        values = (l, y.values);
        after = y.after;
        state = y.state;
        count = y.count;
        less = omega (arith, y.less);
        word = ap (λ (z : List Lexeme). l ∷ z) y.word;
        same = λ i. (d.1 i, y.same i);
        by = (y.front, refl, d.0, y.by);
        on = y.on;
      }
  cut zero m le (mark c ∷ x) is w us s t d = absurd d
  cut (suc h) zero le (mark c ∷ x) is w us s t d = absurd (omega arith)
  cut (suc h) (suc m) le (mark c ∷ x) is w us s t d =
      let y = cut h m (omega arith) x is w us (g.note s c) t d in
      record {
        front = y.front;
        rest = y.rest;
        values = y.values;
        after = y.after;
        state = y.state;
        count = y.count;
        less = omega (arith, y.less);
        word = y.word;
        same = y.same;
        by = y.by;
        on = y.on;
      }
  cut zero m le (rule r ∷ x) is w us s t d = absurd d
  cut (suc h) zero le (rule r ∷ x) is w us s t d = absurd (omega arith)
  cut (suc h) (suc m) le (rule r ∷ x) is w us s t (p, xs, e, ok, d) =
      let y = cut h m (omega arith) (g.symbols r p) (x ++ is) w (both (g.symbols r p) (x ++ is) xs us.1) s t d in
      let z = cut y.count m (omega (arith, y.less)) x is y.rest y.after y.state t y.on in
      let q = join_injective Lexeme g.Tree (g.symbols r p) (x ++ is) xs y.values us.1 y.after y.same in
      let v : us.0 ≡ g.build r p y.values = e ∙ ap (g.build r p) q.0 in
      let rest_same : us.1 ≡ both x is z.values z.after = q.1 ∙ z.same in
      record {
        front = y.front ++ z.front;
        rest = z.rest;
        values = (g.build r p y.values, z.values);
        after = z.after;
        state = z.state;
        count = z.count;
        less = omega (arith, y.less, z.less);
        word = y.word ∙ ap (λ (u : List Lexeme). y.front ++ u) z.word ∙ sym (append_assoc y.front z.front z.rest);
        same = λ i. (v i, rest_same i);
        by = (y.front, z.front, y.state, refl, by_production r p y.front y.values s y.state y.by, z.by);
        on = z.on;
      }

  ended : (h : ℕ) (rest : List Lexeme) (s t : State) → Derives g h [] rest tt s t → (rest ≡ []) × (t ≡ s)
  ended h [] s t d = (refl, d)
  ended h (l ∷ w) s t d = absurd d

  -- a text that reads can be cut
  pub cuts : (r : Rule) (w : List Lexeme) (v : g.Tree r) (s t : State) → Reads g (rule r ∷ []) w (v, tt) s t → IsOf g r w v s t
  cuts r w v s t (h, d) =
      let x = cut h h (omega arith) (rule r ∷ []) [] w (v, tt) s t d in
      let e = ended x.count x.rest x.state t x.on in
      let (u, v2, m, e1, o, e2) = x.by in
      let word : u ≡ w = sym (x.word ∙ ap (λ (y : List Lexeme). x.front ++ y) e.0 ∙ append-nil x.front ∙ e1 ∙ ap (λ (y : List Lexeme). u ++ y) e2.0 ∙ append-nil u) in
      let value : x.values.0 ≡ v = sym (ap (λ (y : g.Tree r × Unit {0}). y.0) x.same) in
      let last : m ≡ t = sym (e.1 ∙ e2.1) in
      subst (λ (y : State). IsOf g r w v s y) last (subst (λ (y : g.Tree r). IsOf g r w y s m) value (subst (λ (y : List Lexeme). IsOf g r y x.values.0 s m) word o))

  -- each rule of the symbols has the property
  abbrev pub EachRule : (Rule → Type 0) → Symbols → Type 0
  EachRule P [] = Unit {0}
  EachRule P (lexeme c ∷ is) = EachRule P is
  EachRule P (mark m ∷ is) = EachRule P is
  EachRule P (rule r ∷ is) = P r × EachRule P is

  -- what is true of the pieces of such rules alone
  pub lift_each : (P : Rule → Type 0) (one two : OfRule g) → ((r : Rule) (w : List Lexeme) (v : g.Tree r) (s t : State) → P r → one r w v s t → two r w v s t)
      → (is : Symbols) (w : List Lexeme) (vs : Vs is) (s t : State) → EachRule P is → OfSymbols g one is w vs s t → OfSymbols g two is w vs s t
  lift_each P one two f [] w vs s t y d = d
  lift_each P one two f (lexeme c ∷ is) w vs s t y (u, e, k, d) = (u, e, k, lift_each P one two f is u vs.1 (g.see s vs.0) t y d)
  lift_each P one two f (mark m ∷ is) w vs s t y d = lift_each P one two f is w vs (g.note s m) t y d
  lift_each P one two f (rule r ∷ is) w vs s t y (u, v, m, e, o, d) = (u, v, m, e, f r u vs.0 s m y.0 o, lift_each P one two f is v vs.1 m t y.1 d)

  -- A set of rules that is closed under productions, none of which is ever disallowed.
  pub record IsFree (P : Rule → Type 0) : Type 0 where
    pub closed : (r : Rule) (p : g.Production r) → P r → EachRule P (g.symbols r p)
    pub allowed : (r : Rule) (p : g.Production r) (l : Option Lexeme) → P r → g.allows r p l ≡ true

  opened_in : (h : ℕ) (r : Rule) (p : g.Production r) (is : Symbols) (w : List Lexeme) (s t : State) (v : g.Tree r) (xs : Vs (g.symbols r p)) (vs : Vs is)
      → v ≡ g.build r p xs → g.allows r p (next w) ≡ true → Derives g h (g.symbols r p ++ is) w (both (g.symbols r p) is xs vs) s t → Derives g (suc h) (rule r ∷ is) w (v, vs) s t
  opened_in h r p is [] s t v xs vs e m d = (p, xs, e, m, d)
  opened_in h r p is (l ∷ w) s t v xs vs e m d = (p, xs, e, m, d)

  noted_in : (h : ℕ) (m : Mark) (is : Symbols) (w : List Lexeme) (s t : State) (vs : Vs is) → Derives g h is w vs (g.note s m) t → Derives g (suc h) (mark m ∷ is) w vs s t
  noted_in h m is [] s t vs d = d
  noted_in h m is (l ∷ w) s t vs d = d

  paste : (P : Rule → Type 0) → IsFree P → (h : ℕ) (x is : Symbols) (u v : List Lexeme) (xs : Vs x) (ys : Vs is) (s m t : State) → EachRule P x
      → OfSymbols g (Within g h) x u xs s m → (j : ℕ) × Derives g j is v ys m t → (j : ℕ) × Derives g j (x ++ is) (u ++ v) (both x is xs ys) s t
  paste P f h [] is u v xs ys s m t y (e, k) d =
      subst (λ (x : List Lexeme). (j : ℕ) × Derives g j is (x ++ v) ys s t) (sym e) (subst (λ (x : State). (j : ℕ) × Derives g j is v ys x t) k d)
  paste P f h (lexeme c ∷ x) is u v xs ys s m t y (u2, e, k, b) d =
      let z = paste P f h x is u2 v xs.1 ys (g.see s xs.0) m t y b d in
      subst (λ (w : List Lexeme). (j : ℕ) × Derives g j (lexeme c ∷ (x ++ is)) (w ++ v) (both (lexeme c ∷ x) is xs ys) s t) (sym e) (suc z.0, (k, refl, z.1))
  paste P f h (mark c ∷ x) is u v xs ys s m t y b d =
      let z = paste P f h x is u v xs ys (g.note s c) m t y b d in (suc z.0, noted_in z.0 c (x ++ is) (u ++ v) s t (both x is xs ys) z.1)
  paste P f zero (rule r ∷ x) is u v xs ys s m t y (u1, u2, n, e, o, b) d = absurd o
  paste P f (suc h) (rule r ∷ x) is u v xs ys s m t y (u1, u2, n, e, (p, zs, k, b1), b) d =
      let z1 = paste P f (suc h) x is u2 v xs.1 ys n m t y.1 b d in
      let z = paste P f h (g.symbols r p) (x ++ is) u1 (u2 ++ v) zs (both x is xs.1 ys) s n t (f.closed r p y.0) b1 z1 in
      subst (λ (w : List Lexeme). (j : ℕ) × Derives g j (rule r ∷ (x ++ is)) w (both (rule r ∷ x) is xs ys) s t) (sym (append_assoc u1 u2 v) ∙ ap (λ (w : List Lexeme). w ++ v) (sym e))
      (suc z.0, opened_in z.0 r p (x ++ is) (u1 ++ (u2 ++ v)) s t xs.0 zs (both x is xs.1 ys) k (f.allowed r p (next (u1 ++ (u2 ++ v))) y.0) z.1)

  -- and back, for the rules of such a set
  pub pastes : (P : Rule → Type 0) → IsFree P → (r : Rule) (w : List Lexeme) (v : g.Tree r) (s t : State) → P r → IsOf g r w v s t → Reads g (rule r ∷ []) w (v, tt) s t
  pastes P f r w v s t y (h, o) =
      let x = paste P f h (rule r ∷ []) [] w [] (v, tt) tt s t t (y, tt) (w, [], t, sym (append-nil w), o, (refl, refl)) (zero, refl) in
      subst (λ (z : List Lexeme). Reads g (rule r ∷ []) z (v, tt) s t) (append-nil w) x
