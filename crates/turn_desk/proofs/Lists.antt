-- Lists: fronts, a place that was set, and pasts of which none is of a number.
use Rattle.std.proofs.Common.{◌≡◌, ℕ, zero, suc, ◌≢◌, List, [], ◌∷◌, ◌++◌, set, sym, refl, ap, ◌∙◌, arith, eq-eqb, ne_eqb, append_assoc}
use Rattle.std.specs.Prelude.{if◌then◌else◌}
use Rattle.std.specs.List.{All}
use Rattle.std.proofs.lemmas.List.Elements.{All-nil, All-cons, All-head, All-tail}
use mathlib.Core.Option.{some, some-injective, some-ne-none}
use mathlib.Core.List.{IsPrefix}
use lib.ListN.{get_elem?}
use Rattle.atomic_table.specs.Table.{rest}
use Rattle.turn_desk.specs.declared.view.Past.{Past}
use Rattle.turn_desk.specs.Views.{total, is_of}

pub prefix_trans : {A : Type 0} (a b c : List A) → IsPrefix a b → IsPrefix b c → IsPrefix a c
prefix_trans a b c x y = (x.0 ++ y.0, sym (append_assoc a x.0 y.0) ∙ (ap (λ l. l ++ y.0) x.1 ∙ y.1))

-- a place that was set has what was set
pub here_set : {A : Type 0} (l : List A) (i : ℕ) (a b : A) → get_elem? l i ≡ some a → get_elem? (set l i b) i ≡ some b
here_set [] i a b e = absurd (some-ne-none a (sym e))
here_set (x ∷ xs) zero a b e = refl
here_set (x ∷ xs) (suc i) a b e = here_set xs i a b e

-- a list with one element has it at place 0 alone
pub only_one : {A : Type 0} {v : A} (j : ℕ) (u : A) → get_elem? (v ∷ []) j ≡ some u → (j ≡ 0) × (v ≡ u)
only_one {A} {v} zero u e = (refl, some-injective v u e)
only_one {A} {v} (suc j) u e = absurd (some-ne-none u (sym e))

-- what a seat holds, where it holds one slot
pub one_slot : {S : Type 0} (l : List (ℕ × S)) (x : S) → l ≡ (0, x) ∷ [] → l ≡ (0, x) ∷ rest l
one_slot l x e = e ∙ ap (λ r. (0, x) ∷ r) (sym (ap rest e))

module _ {C R E : Type 0} where
  pub is_own : (n : ℕ) (p : Past C R E) → p.number ≡ n → is_of n p ≡ 1
  is_own n p e = ap (λ b. if b then 1 else 0) (eq-eqb p.number n e)

  pub is_other : (n : ℕ) (p : Past C R E) → p.number ≢ n → is_of n p ≡ 0
  is_other n p e = ap (λ b. if b then 1 else 0) (ne_eqb p.number n e)

  pub differs : (n : ℕ) (p : Past C R E) → is_of n p ≡ 0 → p.number ≢ n
  differs n p nil e = let one = is_own n p e in omega (arith, one, nil)

  -- what holds of pasts of which none is of the number n
  pub all_but : (n : ℕ) (Q S : Past C R E → Type 0) → ((q : Past C R E) → q.number ≢ n → Q q → S q)
      → (ps : List (Past C R E)) → total (is_of n) ps ≡ 0 → All Q ps → All S ps
  all_but n Q S go [] nil all = All-nil S
  all_but n Q S go (q ∷ qs) nil all =
      All-cons S q qs
      (go q (differs n q (omega (arith, nil))) (All-head Q q qs all))
      (all_but n Q S go qs (omega (arith, nil)) (All-tail Q q qs all))
