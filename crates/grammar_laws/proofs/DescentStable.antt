-- Law: reading by descent does not depend on the number, where it is large enough, and what it reads
-- is shorter.
use Rattle.std.specs.Prelude.{◌≡◌, ℕ, zero, suc, ◌+◌, ◌*◌, ◌≤◌, max, Bool, true, false, ◌&&◌, List, [], ◌∷◌, length, Option, Some, None, if◌then◌else◌, refl}
use Rattle.std.proofs.Common.{ap, sym, ◌∙◌, subst, arith}
use Rattle.std.proofs.Math.Nat.{mul-le-mul_left}
use Rattle.grammar_laws.specs.Grammar.{Symbol, Trees, Grammar, next}
use Rattle.grammar_laws.specs.Grammar.Symbol.{lexeme, rule, mark}
use Rattle.grammar_laws.specs.Lookahead.{Lookahead, empties}
use Rattle.grammar_laws.specs.Predictive.{IsRanked, reach, only_if}
use Rattle.grammar_laws.specs.Descent.{read, read_all, read_by, expect, ◌>>=◌, Reader}

-- one lexeme at least, where a text may not be empty
abbrev cost : Bool → ℕ
cost true = 0
cost false = 1

module _ {Lexeme Class Rule Mark State : Type 0} (g : Grammar Lexeme Class Rule Mark State) (a : Lookahead Lexeme Class Rule g.Production) (rank : Rule → ℕ) (top : ℕ) where
  abbrev Symbols : Type 0
  Symbols = List (Symbol Class Rule Mark)

  abbrev Vs : Symbols → Type 0
  Vs = Trees Lexeme g.Tree

  abbrev Ranked : Type 0
  Ranked = IsRanked g a rank top

  abbrev reaches : Symbols → ℕ
  reaches = reach a.nullable rank

  abbrev all_by : (B : Type 0) → Reader g a → (is : Symbols) → List Lexeme → (Vs is → List Lexeme → Option B) → Option B
  all_by B f = read_all g a {B = B} f

  abbrev all : (B : Type 0) → ℕ → (is : Symbols) → List Lexeme → (Vs is → List Lexeme → Option B) → Option B
  all B n = all_by B (read g a n)

  reach_small : Ranked → (is : Symbols) → reaches is ≤ top
  reach_small d [] = omega arith
  reach_small d (lexeme c ∷ is) = omega arith
  reach_small d (mark m ∷ is) = reach_small d is
  reach_small d (rule q ∷ is) = go (a.nullable q) (reaches is) (rank q) (reach_small d is) (d.small q)
    where
      go : (b : Bool) (m k : ℕ) → m ≤ top → k ≤ top → max k (only_if b m) ≤ top
      go true m k h j = omega arith
      go false m k h j = omega arith

  -- what is read takes at least a lexeme, unless it may be empty
  record Took (B : Type 0) (is : Symbols) (w : List Lexeme) (k : Vs is → List Lexeme → Option B) (y : B) : Type 0 where
    values : Vs is
    rest : List Lexeme
    gives : k values rest ≡ Some y
    less : length rest + cost (empties g a is) ≤ length w

  wanted : (B : Type 0) (c : Class) (w : List Lexeme) (f : Lexeme × List Lexeme → Option B) (y : B) → (expect g a c w >>= f) ≡ Some y
      → (x : Lexeme × List Lexeme) × (f x ≡ Some y) × (suc (length x.1) ≡ length w)
  wanted B c [] f y e = absurd (cc)
  wanted B c (l ∷ w) f y e = go (g.admits c l) e
    where
      go : (b : Bool) → ((if b then Some (l, w) else None) >>= f) ≡ Some y → (x : Lexeme × List Lexeme) × (f x ≡ Some y) × (suc (length x.1) ≡ length (l ∷ w))
      go true e = ((l, w), e, refl)
      go false e = absurd (cc)

  bound_some : {A B : Type 0} (o : Option A) (f : A → Option B) (y : B) → (o >>= f) ≡ Some y → (x : A) × (o ≡ Some x) × (f x ≡ Some y)
  bound_some None f y e = absurd (cc)
  bound_some (Some x) f y e = (x, refl, e)

  costs : (b c : Bool) → cost (b && c) ≤ cost b + cost c
  costs true c = omega arith
  costs false c = omega arith

  took_all : (B : Type 0) (n : ℕ) → ((r : Rule) (w : List Lexeme) (x : g.Tree r × List Lexeme) → read g a n r w ≡ Some x → length x.1 + cost (a.nullable r) ≤ length w)
      → (is : Symbols) (w : List Lexeme) (k : Vs is → List Lexeme → Option B) (y : B) → all B n is w k ≡ Some y → Took B is w k y
  took_all B n t [] w k y e = record { values = tt; rest = w; gives = e; less = omega arith }
  took_all B n t (mark m ∷ is) w k y e = let z = took_all B n t is w k y e in record { values = z.values; rest = z.rest; gives = z.gives; less = z.less }
  took_all B n t (lexeme c ∷ is) w k y e =
      let x = wanted B c w _ y e in
      let z = took_all B n t is x.0.1 (λ v rest. k (x.0.0, v) rest) y x.1 in
      record { values = (x.0.0, z.values); rest = z.rest; gives = z.gives; less = omega (arith, z.less, x.2) }
  took_all B n t (rule q ∷ is) w k y e =
      let x = bound_some (read g a n q w) _ y e in
      let z = took_all B n t is x.0.1 (λ v rest. k (x.0.0, v) rest) y x.2 in
      record { values = (x.0.0, z.values); rest = z.rest; gives = z.gives; less = omega (arith, z.less, t q w x.0 x.1, costs (a.nullable q) (empties g a is)) }

  cost_least : (b c : Bool) → (b ≡ true → c ≡ true) → cost c ≤ cost b
  cost_least true c f = rw (f refl) (omega arith)
  cost_least false true f = omega arith
  cost_least false false f = omega arith

  took_by : Ranked → (n : ℕ) → ((r : Rule) (w : List Lexeme) (x : g.Tree r × List Lexeme) → read g a n r w ≡ Some x → length x.1 + cost (a.nullable r) ≤ length w)
      → (r : Rule) (w : List Lexeme) (x : g.Tree r × List Lexeme) (o : Option (g.Production r)) → read_by g a (read g a n) r w o ≡ Some x
      → length x.1 + cost (a.nullable r) ≤ length w
  took_by d n t r w x None e = absurd (cc)
  took_by d n t r w x (Some p) e =
      let z = took_all (g.Tree r × List Lexeme) n t (g.symbols r p) w (λ v rest. Some (g.build r p v, rest)) x e in
      let same : z.rest ≡ x.1 = ap (λ (o : Option (g.Tree r × List Lexeme)). rest_of z.rest o) z.gives in
      omega (arith, z.less, cost_least (empties g a (g.symbols r p)) (a.nullable r) (d.empty r p), ap length same)
    where
      rest_of : List Lexeme → Option (g.Tree r × List Lexeme) → List Lexeme
      rest_of w None = w
      rest_of w (Some y) = y.1

  -- what is read of a rule is shorter, unless the rule may be empty
  pub shorter : Ranked → (n : ℕ) (r : Rule) (w : List Lexeme) (x : g.Tree r × List Lexeme) → read g a n r w ≡ Some x → length x.1 + cost (a.nullable r) ≤ length w
  unfolding read
  shorter d zero r w x e = absurd (cc)
  shorter d (suc n) r w x e = took_by d n (shorter d n) r w x (a.choose r (next w)) e

  bound_same : {A B : Type 0} (o p : Option A) (f h : A → Option B) → o ≡ p → ((x : A) → p ≡ Some x → f x ≡ h x) → (o >>= f) ≡ (p >>= h)
  bound_same {A = A} {B = B} o p f h e same = subst (λ (o : Option A). (o >>= f) ≡ (p >>= h)) (sym e) (go p same)
    where
      go : (p : Option A) → ((x : A) → p ≡ Some x → f x ≡ h x) → (p >>= f) ≡ (p >>= h)
      go None same = refl
      go (Some x) same = same x refl

  fewer : (m n : ℕ) → suc m ≤ n → top * m + top ≤ top * n
  fewer m n h = omega (arith, mul-le-mul_left top h)

  goes_on : (b : Bool) (lx lw rk re n : ℕ) → top * lw + max rk (only_if b re) ≤ n → lx + cost b ≤ lw → re ≤ top → top * lx + re ≤ n
  goes_on true lx lw rk re n h j small = let less : lx ≤ lw = omega arith in omega (arith, mul-le-mul_left top less)
  goes_on false lx lw rk re n h j small = let less : suc lx ≤ lw = omega arith in omega (arith, fewer lx lw less)

  stable_all : (B : Type 0) → Ranked → (n : ℕ) (f : Reader g a) → ((r : Rule) (w : List Lexeme) → top * length w + rank r ≤ n → read g a n r w ≡ f r w)
      → (is : Symbols) (w : List Lexeme) (k : Vs is → List Lexeme → Option B) → top * length w + reaches is ≤ n → all B n is w k ≡ all_by B f is w k
  stable_all B d n f t [] w k e = refl
  stable_all B d n f t (mark m ∷ is) w k e = stable_all B d n f t is w k e
  stable_all B d n f t (lexeme c ∷ is) w k e = bound_same (expect g a c w) (expect g a c w) _ _ refl (λ x found.
      let y = wanted (Lexeme × List Lexeme) c w (λ x. Some x) x (bound_id (expect g a c w) ∙ found) in
      let same : length y.0.1 ≡ length x.1 = ap (λ (o : Option (Lexeme × List Lexeme)). length (rest_of x o)) y.1 in
      let less = fewer (length x.1) (length w) (omega (arith, y.2, same)) in
      stable_all B d n f t is x.1 (λ v rest. k (x.0, v) rest) (omega (arith, less, reach_small d is)))
    where
      rest_of : Lexeme × List Lexeme → Option (Lexeme × List Lexeme) → List Lexeme
      rest_of x None = x.1
      rest_of x (Some y) = y.1

      bound_id : (o : Option (Lexeme × List Lexeme)) → (o >>= λ x. Some x) ≡ o
      bound_id None = refl
      bound_id (Some x) = refl
  stable_all B d n f t (rule q ∷ is) w k e =
      let same = t q w (omega arith) in
      bound_same (read g a n q w) (f q w) _ _ same (λ x found.
      stable_all B d n f t is x.1 (λ v rest. k (x.0, v) rest)
      (goes_on (a.nullable q) (length x.1) (length w) (rank q) (reaches is) n e (shorter d n q w x (same ∙ found)) (reach_small d is)))

  by_same : Ranked → (n : ℕ) (f : Reader g a) → ((r : Rule) (w : List Lexeme) → top * length w + rank r ≤ n → read g a n r w ≡ f r w)
      → (r : Rule) (w : List Lexeme) (o : Option (g.Production r)) → top * length w + rank r ≤ suc n → read_by g a (read g a n) r w o ≡ read_by g a f r w o
  by_same d n f t r w None e = refl
  by_same d n f t r w (Some p) e = stable_all (g.Tree r × List Lexeme) d n f t (g.symbols r p) w (λ v rest. Some (g.build r p v, rest)) (omega (arith, d.lower r p))

  pub stable : Ranked → (n m : ℕ) → n ≤ m → (r : Rule) (w : List Lexeme) → top * length w + rank r ≤ n → read g a n r w ≡ read g a m r w
  unfolding read
  stable d zero m le r w e = absurd (omega (arith, d.positive r))
  stable d (suc n) zero le r w e = absurd (omega arith)
  stable d (suc n) (suc m) le r w e = by_same d n (read g a m) (stable d n m (omega arith)) r w (a.choose r (next w)) e

  -- a number that is large enough for the text
  abbrev pub enough : List Lexeme → ℕ
  enough w = top * length w + top

  step : (n : ℕ) (r : Rule) (w : List Lexeme) → read g a (suc n) r w ≡ read_by g a (read g a n) r w (a.choose r (next w))
  unfolding read
  step n r w = refl

  -- from a number that is large enough, a rule is read by the production that the next lexeme chooses, and each
  -- rule of it from a number that is large enough
  pub unrolled : Ranked → (r : Rule) (w : List Lexeme) → read g a (enough w) r w ≡ read_by g a (λ q v. read g a (enough v) q v) r w (a.choose r (next w))
  unrolled d r w =
      stable d (enough w) (suc (enough w)) (omega arith) r w (omega (arith, d.small r))
      ∙ step (enough w) r w
      ∙ by_same d (enough w) (λ q v. read g a (enough v) q v) (λ q v e. meet d (enough w) (enough v) q v e (omega (arith, d.small q))) r w (a.choose r (next w)) (omega (arith, d.small r))
    where
      meet : Ranked → (n m : ℕ) (q : Rule) (v : List Lexeme) → top * length v + rank q ≤ n → top * length v + rank q ≤ m → read g a n q v ≡ read g a m q v
      meet d n m q v e f = stable d n (n + m) (omega arith) q v e ∙ sym (stable d m (n + m) (omega arith) q v f)
