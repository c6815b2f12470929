-- What is gathered from a list, element by element.
use Rattle.std.proofs.Common.{◌≡◌, ℕ, ◌+◌, ◌<◌, ◌≤◌, Bool, true, false, cond, List, [], ◌∷◌, ◌++◌, length, get_or, drop, Option, Some, None, refl, ap, sym, ◌∙◌, append-nil}
use Rattle.std.specs.Prelude.{filter, option_to_list}
use Rattle.std.specs.List.{cons_option}
use Rattle.std.proofs.lemmas.List.{append_assoc, drop_all, drop_more}

module _ {X Y : Type 0} (f : ℕ → List X → List Y) where
  -- what is there, and what comes of the elements that are left, is the whole: one element more
  pub gathered_more : (done new one whole : List Y) (xs : List X) (i : ℕ) (x : X) → i < length xs → x ≡ get_or xs i x
      → ((rest : List X) → f i (x ∷ rest) ≡ one ++ f (i + 1) rest) → new ≡ done ++ one → done ++ f i (drop i xs) ≡ whole → new ++ f (i + 1) (drop (i + 1) xs) ≡ whole
  gathered_more done new one whole xs i x within at step is so_far =
      let rest = drop (i + 1) xs in
      ap (λ (ys : List Y). ys ++ f (i + 1) rest) is
      ∙ append_assoc done one (f (i + 1) rest)
      ∙ ap (λ (ys : List Y). done ++ ys) (sym (step rest))
      ∙ ap (λ (y : X). done ++ f i (y ∷ rest)) at
      ∙ ap (λ (ys : List X). done ++ f i ys) (sym (drop_more xs i x within))
      ∙ so_far

  -- and at the end
  pub gathered_all : (done whole : List Y) (xs : List X) (i : ℕ) → length xs ≤ i → f i [] ≡ [] → done ++ f i (drop i xs) ≡ whole → done ≡ whole
  gathered_all done whole xs i past none so_far =
      sym (append-nil done) ∙ ap (λ (ys : List Y). done ++ ys) (sym none) ∙ ap (λ (ys : List X). done ++ f i ys) (sym (drop_all i xs past)) ∙ so_far

pub one_first : {Y : Type 0} (one : Option Y) (ys : List Y) → cons_option one ys ≡ option_to_list one ++ ys
one_first None ys = refl
one_first (Some y) ys = refl

pub passed_first : {X : Type 0} (test : X → Bool) (x : X) (xs : List X) → filter test (x ∷ xs) ≡ filter test (x ∷ []) ++ filter test xs
passed_first test x xs = elim (test x) as (λ b. cond b (x ∷ filter test xs) (filter test xs) ≡ cond b (x ∷ []) [] ++ filter test xs) [ true ↦ refl | false ↦ refl ]
