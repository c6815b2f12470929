-- A grammar is predictive where each rule passes its test, which tries every kind: in the crate of a
-- grammar each rule is one line, closed by `refl`.
use Rattle.std.specs.Prelude.{◌≡◌, ℕ, suc, ◌<◌, nat_lt, Bool, true, false, not, ◌&&◌, List, [], ◌∷◌, Option, Some, None, ◌⊎◌, refl}
use Rattle.std.proofs.Common.{ap, sym, ◌∙◌, subst, inl, inr, arith}
use Rattle.std.proofs.lemmas.Bool.Decides.{nat_tests}
use Rattle.grammar_laws.specs.Grammar.{Symbol}
use Rattle.grammar_laws.specs.Grammar.Symbol.{lexeme, rule, mark}
use Rattle.grammar_laws.specs.Lookahead.{begins, KeepsFollowIn, HasNoBinding, BindsAtFront}
use Rattle.grammar_laws.specs.Predictive.{IsPredictive, IsRanked, reach}
use Rattle.grammar_laws.specs.Alternatives.{KindGrammar, IndexOf, AlternativeOf, symbols_of, may_take, choose, follow, kind_of, may_begin, may_be_empty, grammar_of, lookahead_of}
use Rattle.grammar_laws.proofs.Booleans.{and_true, implied, implies}

-- the two indices are one
abbrev pub same_index : {A : Type 0} (xs : List A) → Option (IndexOf xs) → IndexOf xs → Bool
same_index [] o i = false
same_index (x ∷ xs) None i = false
same_index (x ∷ xs) (Some None) None = true
same_index (x ∷ xs) (Some None) (Some i) = false
same_index (x ∷ xs) (Some (Some j)) None = false
same_index (x ∷ xs) (Some (Some j)) (Some i) = same_index xs (Some j) i

pub same_index_so : {A : Type 0} (xs : List A) (o : Option (IndexOf xs)) (i : IndexOf xs) → same_index xs o i ≡ true → o ≡ Some i
same_index_so [] o i e = absurd i
same_index_so (x ∷ xs) None i e = absurd (cc)
same_index_so (x ∷ xs) (Some None) None e = refl
same_index_so (x ∷ xs) (Some None) (Some i) e = absurd (cc)
same_index_so (x ∷ xs) (Some (Some j)) None e = absurd (cc)
same_index_so (x ∷ xs) (Some (Some j)) (Some i) e =
    let same : j ≡ i = let it = same_index_so xs (Some j) i e in cc in ap (λ (i : IndexOf xs). Some (Some i)) same

so_same_index : {A : Type 0} (xs : List A) (o : Option (IndexOf xs)) (i : IndexOf xs) → o ≡ Some i → same_index xs o i ≡ true
so_same_index xs o i e = subst (λ (z : Option (IndexOf xs)). same_index xs z i ≡ true) (sym e) (itself xs i)
  where
    itself : {A : Type 0} (xs : List A) (i : IndexOf xs) → same_index xs (Some i) i ≡ true
    itself [] i = absurd i
    itself (x ∷ xs) None = refl
    itself (x ∷ xs) (Some i) = itself xs i

-- it holds at every index
abbrev pub each_index : {A : Type 0} (xs : List A) → (IndexOf xs → Bool) → Bool
each_index [] f = true
each_index (x ∷ xs) f = f None && each_index xs (λ i. f (Some i))

pub each_index_so : {A : Type 0} (xs : List A) (f : IndexOf xs → Bool) → each_index xs f ≡ true → (i : IndexOf xs) → f i ≡ true
each_index_so [] f e i = absurd i
each_index_so (x ∷ xs) f e None = (and_true (f None) _ e).0
each_index_so (x ∷ xs) f e (Some i) = each_index_so xs (λ j. f (Some j)) (and_true (f None) _ e).1 i

-- it holds of every member
abbrev pub each : {A : Type 0} → (A → Bool) → List A → Bool
each f [] = true
each f (x ∷ xs) = f x && each f xs

-- the list has the member
abbrev pub Has : {A : Type 0} → List A → A → Type 0
Has [] a = ⊥
Has (x ∷ xs) a = (x ≡ a) ⊎ Has xs a

pub each_so : {A : Type 0} (f : A → Bool) (xs : List A) (a : A) → Has xs a → each f xs ≡ true → f a ≡ true
each_so f [] a h e = absurd h
each_so f (x ∷ xs) a h e = elim h [
  | inl same ↦ sym (ap f same) ∙ (and_true (f x) _ e).0
  | inr more ↦ each_so f xs a more (and_true (f x) _ e).1
]

module _ {Lexeme Class Rule Mark State Kind : Type 0} (t : KindGrammar Lexeme Class Rule Mark State Kind) where
  abbrev Symbols : Type 0
  Symbols = List (Symbol Class Rule Mark)

  abbrev followed : Rule → Symbols → Kind → Bool
  followed r [] k = true
  followed r (lexeme c ∷ is) k = followed r is k
  followed r (mark m ∷ is) k = followed r is k
  followed r (rule q ∷ is) k = implies (may_begin t is k) (follow t q k) && (implies (may_be_empty t is) (implies (follow t r k) (follow t q k)) && followed r is k)

  abbrev pub unbound : Symbols → Bool
  unbound [] = true
  unbound (lexeme c ∷ is) = not (t.binding c) && unbound is
  unbound (rule q ∷ is) = unbound is
  unbound (mark m ∷ is) = unbound is

  abbrev binds_at_front : Symbols → Bool
  binds_at_front [] = true
  binds_at_front (lexeme c ∷ is) = binds_at_front is
  binds_at_front (rule q ∷ is) = unbound is
  binds_at_front (mark m ∷ is) = unbound is

  -- the test of an alternative before a kind; `before` is what is chosen before the kind, `last` at the end
  abbrev alternative_ok : (r : Rule) → Kind → Option (AlternativeOf t r) → Option (AlternativeOf t r) → AlternativeOf t r → Bool
  alternative_ok r k before last p =
      implies (may_begin t (symbols_of t r p) k) (t.first r k && implies (may_take t r p (Some k)) (same_index (t.alternatives r) before p))
      && (implies (may_be_empty t (symbols_of t r p))
      (implies (may_take t r p (Some k)) (implies (follow t r k) (same_index (t.alternatives r) before p)) && (t.nullable r && same_index (t.alternatives r) last p))
      && (followed r (symbols_of t r p) k && (implies (same_index (t.alternatives r) before p) (may_take t r p (Some k)) && binds_at_front (symbols_of t r p))))

  -- all alternatives of the rule before all kinds
  abbrev pub rule_ok : List Kind → Rule → Bool
  rule_ok kinds r = each (λ k. each_index (t.alternatives r) (alternative_ok r k (choose t r (Some k)) (choose t r None))) kinds

  -- what may come next sees of a lexeme its kind alone
  begins_kind : (is : Symbols) (l : Lexeme) → begins (grammar_of t) (lookahead_of t) is l ≡ may_begin t is (t.kind l)
  begins_kind [] l = refl
  begins_kind (lexeme c ∷ is) l = refl
  begins_kind (mark m ∷ is) l = begins_kind is l
  begins_kind (rule q ∷ is) l = rw (begins_kind is l)

  pub unbound_so : (is : Symbols) → unbound is ≡ true → HasNoBinding (grammar_of t) (lookahead_of t) is
  unbound_so [] e = tt
  unbound_so (lexeme c ∷ is) e = let p = and_true _ _ e in (not_true (t.binding c) p.0, unbound_so is p.1)
    where
      not_true : (b : Bool) → not b ≡ true → b ≡ false
      not_true true e = absurd (cc)
      not_true false e = refl
  unbound_so (rule q ∷ is) e = unbound_so is e
  unbound_so (mark m ∷ is) e = unbound_so is e

  binds_so : (is : Symbols) → binds_at_front is ≡ true → BindsAtFront (grammar_of t) (lookahead_of t) is
  binds_so [] e = tt
  binds_so (lexeme c ∷ is) e = binds_so is e
  binds_so (rule q ∷ is) e = unbound_so is e
  binds_so (mark m ∷ is) e = unbound_so is e

  follows_so : (r : Rule) (is : Symbols) → ((k : Kind) → followed r is k ≡ true) → KeepsFollowIn (grammar_of t) (lookahead_of t) r is
  follows_so r [] f = tt
  follows_so r (lexeme c ∷ is) f = follows_so r is f
  follows_so r (mark m ∷ is) f = follows_so r is f
  follows_so r (rule q ∷ is) f = (
    (λ l e. implied _ _ (and_true _ _ (f (t.kind l))).0 (sym (begins_kind is l) ∙ e)),
    (λ e l h. implied _ _ (implied _ _ (and_true _ _ (and_true _ _ (f (t.kind l))).1).0 e) h),
    follows_so r is (λ k. (and_true _ _ (and_true _ _ (f k)).1).1),
  )

  module _ (kinds : List Kind) (one : Kind) (known : (k : Kind) → Has kinds k) (ok : (r : Rule) → rule_ok kinds r ≡ true) where
    alternative_is_ok : (r : Rule) (p : AlternativeOf t r) (k : Kind) → alternative_ok r k (choose t r (Some k)) (choose t r None) p ≡ true
    alternative_is_ok r p k = each_index_so (t.alternatives r) _ (each_so (λ k. each_index (t.alternatives r) (alternative_ok r k (choose t r (Some k)) (choose t r None))) kinds k (known k) (ok r)) p

    starts : (r : Rule) (p : AlternativeOf t r) (l : Lexeme) → begins (grammar_of t) (lookahead_of t) (symbols_of t r p) l ≡ true
        → (t.first r (t.kind l) ≡ true) × (may_take t r p (Some (t.kind l)) ≡ true → choose t r (Some (t.kind l)) ≡ Some p)
    starts r p l e =
        let all = (and_true _ _ (alternative_is_ok r p (t.kind l))).0 in
        let both = and_true _ _ (implied _ _ all (sym (begins_kind (symbols_of t r p) l) ∙ e)) in
        (both.0, (λ m. same_index_so (t.alternatives r) _ p (implied _ _ both.1 m)))

    skips : (r : Rule) (p : AlternativeOf t r) (k : Kind) → may_be_empty t (symbols_of t r p) ≡ true
        → (may_take t r p (Some k) ≡ true → follow t r k ≡ true → choose t r (Some k) ≡ Some p) × (t.nullable r ≡ true) × (choose t r None ≡ Some p)
    skips r p k e =
        let all = (and_true _ _ (and_true _ _ (alternative_is_ok r p k)).1).0 in
        let both = and_true _ _ (implied _ _ all e) in
        let more = and_true _ _ both.1 in
        ((λ m f. same_index_so (t.alternatives r) _ p (implied _ _ (implied _ _ both.0 m) f)), more.0, same_index_so (t.alternatives r) _ p more.1)

    rest_ok : (r : Rule) (p : AlternativeOf t r) (k : Kind)
        → (followed r (symbols_of t r p) k ≡ true) × (implies (same_index (t.alternatives r) (choose t r (Some k)) p) (may_take t r p (Some k)) ≡ true) × (binds_at_front (symbols_of t r p) ≡ true)
    rest_ok r p k =
        let x = and_true _ _ (and_true _ _ (and_true _ _ (alternative_is_ok r p k)).1).1 in
        let y = and_true _ _ x.1 in
        (x.0, y.0, y.1)

    allowed : (r : Rule) (p : AlternativeOf t r) (l : Option Lexeme) → choose t r (kind_of t l) ≡ Some p → may_take t r p (kind_of t l) ≡ true
    allowed r p None e = refl
    allowed r p (Some l) e = implied _ _ (rest_ok r p (t.kind l)).1 (so_same_index (t.alternatives r) (choose t r (Some (t.kind l))) p e)

    pub predictive : IsPredictive (grammar_of t) (lookahead_of t)
    predictive = record {
      starts = starts;
      skips = λ r p l e m f. (skips r p (t.kind l) e).0 m f;
      ends = λ r p e. let it = skips r p one e in (it.1, it.2);
      allowed = allowed;
      binds = λ r p. binds_so (symbols_of t r p) (rest_ok r p one).2;
      follows = λ r p. follows_so r (symbols_of t r p) (λ k. (rest_ok r p k).0);
    }

  module _ (rank : Rule → ℕ) (top : ℕ) where
    -- the alternative comes to rules of lower ranks alone, before a lexeme
    abbrev alternative_ranked : (r : Rule) → AlternativeOf t r → Bool
    alternative_ranked r p = nat_lt (reach t.nullable rank (symbols_of t r p)) (rank r) && implies (may_be_empty t (symbols_of t r p)) (t.nullable r)

    -- no rule comes to itself before a lexeme, as far as this rule goes
    abbrev pub rank_ok : Rule → Bool
    rank_ok r = (nat_lt 0 (rank r) && nat_lt (rank r) (suc top)) && each_index (t.alternatives r) (alternative_ranked r)

    less : (m n : ℕ) → nat_lt m n ≡ true → m < n
    less m n e = grind (arith, nat_tests)

    alternative_is_ranked : ((r : Rule) → rank_ok r ≡ true) → (r : Rule) (p : AlternativeOf t r) → alternative_ranked r p ≡ true
    alternative_is_ranked ok r p = each_index_so (t.alternatives r) (alternative_ranked r) (and_true _ _ (ok r)).1 p

    pub ranked : ((r : Rule) → rank_ok r ≡ true) → IsRanked (grammar_of t) (lookahead_of t) rank top
    ranked ok = record {
      positive = λ r. less 0 (rank r) (and_true _ _ (and_true _ _ (ok r)).0).0;
      small = λ r. let below = less (rank r) (suc top) (and_true _ _ (and_true _ _ (ok r)).0).1 in omega (arith, below);
      lower = λ r p. less _ _ (and_true _ _ (alternative_is_ranked ok r p)).0;
      empty = λ r p e. implied _ _ (and_true _ _ (alternative_is_ranked ok r p)).1 e;
    }
