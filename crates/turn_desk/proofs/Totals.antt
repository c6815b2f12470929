-- Totals over views, and pasts of which none has a number.
use Rattle.std.proofs.Common.{◌≡◌, ℕ, zero, suc, ◌+◌, ◌≤◌, ◌≢◌, List, [], ◌∷◌, ◌++◌, length, set, sym, refl, ap, arith}
use mathlib.Core.Option.{some, some-injective, some-ne-none}
use lib.ListN.{get_elem?}
use Rattle.turn_desk.specs.Views.{total}

module _ {A : Type 0} where
  -- the total after a change of one
  pub total_set : (f : A → ℕ) (vs : List A) (i : ℕ) (v w : A) → get_elem? vs i ≡ some v → total f (set vs i w) + f v ≡ total f vs + f w
  total_set f [] i v w e = absurd (some-ne-none v (sym e))
  total_set f (x ∷ xs) zero v w e = let same : f x ≡ f v = ap f (some-injective x v e) in omega (arith, same)
  total_set f (x ∷ xs) (suc i) v w e = let rec = total_set f xs i v w e in omega (arith, rec)

  pub total_append : (f : A → ℕ) (vs ws : List A) → total f (vs ++ ws) ≡ total f vs + total f ws
  total_append f [] ws = omega arith
  total_append f (x ∷ xs) ws = let rec = total_append f xs ws in omega (arith, rec)

  pub total_snoc : (f : A → ℕ) (vs : List A) (w : A) → total f (vs ++ w ∷ []) ≡ total f vs + f w
  total_snoc f vs w = let rec = total_append f vs (w ∷ []) in omega (arith, rec)

  -- one of them
  pub total_one : (f : A → ℕ) (vs : List A) (i : ℕ) (v : A) → get_elem? vs i ≡ some v → f v ≤ total f vs
  total_one f [] i v e = absurd (some-ne-none v (sym e))
  total_one f (x ∷ xs) zero v e = let same : f x ≡ f v = ap f (some-injective x v e) in omega (arith, same)
  total_one f (x ∷ xs) (suc i) v e = let rec = total_one f xs i v e in omega (arith, rec)

  -- two of them
  pub total_two : (f : A → ℕ) (vs : List A) (i j : ℕ) (v w : A) → i ≢ j → get_elem? vs i ≡ some v → get_elem? vs j ≡ some w → f v + f w ≤ total f vs
  total_two f [] i j v w n e h = absurd (some-ne-none v (sym e))
  total_two f (x ∷ xs) zero zero v w n e h = absurd (n refl)
  total_two f (x ∷ xs) zero (suc j) v w n e h = let same : f x ≡ f v = ap f (some-injective x v e) in let rec = total_one f xs j w h in omega (arith, same, rec)
  total_two f (x ∷ xs) (suc i) zero v w n e h = let same : f x ≡ f w = ap f (some-injective x w h) in let rec = total_one f xs i v e in omega (arith, same, rec)
  total_two f (x ∷ xs) (suc i) (suc j) v w n e h = let rec = total_two f xs i j v w (λ same. n (ap suc same)) e h in omega (arith, rec)

  pub total_none : (size f : A → ℕ) → ((u : A) → size u ≡ 0 → f u ≡ 0) → (vs : List A) → total size vs ≡ 0 → total f vs ≡ 0
  total_none size f none [] h = refl
  total_none size f none (x ∷ xs) h = let x_none : f x ≡ 0 = none x (omega (arith, h)) in let rec = total_none size f none xs (omega (arith, h)) in omega (arith, rec, x_none)

  -- where one has all the size, it has all of what only size gives
  pub total_only : (size f : A → ℕ) → ((u : A) → size u ≡ 0 → f u ≡ 0) → (vs : List A) (i : ℕ) (v : A) → get_elem? vs i ≡ some v → total size vs ≡ size v → total f vs ≡ f v
  total_only size f none [] i v e h = absurd (some-ne-none v (sym e))
  total_only size f none (x ∷ xs) zero v e h = let x_is : x ≡ v = some-injective x v e in let s : size x ≡ size v = ap size x_is in let same : f x ≡ f v = ap f x_is in
      let rest : total f xs ≡ 0 = total_none size f none xs (omega (arith, h, s)) in omega (arith, same, rest)
  total_only size f none (x ∷ xs) (suc i) v e h = let more = total_one size xs i v e in let x_none : f x ≡ 0 = none x (omega (arith, h, more)) in
      let rec = total_only size f none xs i v e (omega (arith, h, more)) in omega (arith, rec, x_none)

  pub total_empty : (f : A → ℕ) (vs : List A) → length vs ≡ 0 → total f vs ≡ 0
  total_empty f [] e = refl
  total_empty f (x ∷ xs) e = absurd (omega (arith, e))
