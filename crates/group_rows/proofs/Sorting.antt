-- Sorting: the list in order is the one in order in which ties stand as they were.
use Rattle.std.proofs.Common.{◌≡◌, ℕ, zero, suc, ◌+◌, ◌<◌, ◌≤◌, Bool, true, false, not, ◌&&◌, cond, List, [], ◌∷◌, length, get_or, refl, sym, ◌∙◌, ap, subst, arith}
use Rattle.std.specs.Cmp.{IsStrictWeakOrder}
use Rattle.std.specs.List.{filter, AllByRecursion}
use Rattle.std.specs.List.Sorted.{IsSortedBy, IsStableBy, ties}
use Rattle.std.specs.Ordering.{is_lt}
use Rattle.std.specs.declared.cmp.Ordering.{Ordering}
use Rattle.std.proofs.lemmas.List.Elements.{recursion_from_All}
use Rattle.std.proofs.lemmas.List.Sorted.{sorted_far}
use Rattle.group_rows.specs.Ordered.{put, in_order}

module _ {X : Type 0} (lt : X → X → Bool) (laws : IsStrictWeakOrder lt) where
  -- each is not after any behind it
  abbrev pub Rises : List X → Type 0
  Rises [] = Unit {0}
  Rises (x ∷ xs) = AllByRecursion (λ y. lt y x ≡ false) xs × Rises xs

  rises_from : (xs : List X) → ((i j : ℕ) (d : X) → i ≤ j → j < length xs → lt (get_or xs j d) (get_or xs i d) ≡ false) → Rises xs
  rises_from [] far = tt
  rises_from (x ∷ xs) far = (
    recursion_from_All (λ y. lt y x ≡ false) xs (λ k d below. far 0 (suc k) d (omega arith) (omega arith)),
    rises_from xs (λ i j d le below. far (suc i) (suc j) d (omega arith) (omega arith)),
  )

  pub Rises-from_sorted : (xs : List X) → IsSortedBy lt xs → Rises xs
  Rises-from_sorted xs sorted = rises_from xs (sorted_far lt laws xs sorted)

  not_itself : (x : X) → lt x x ≡ false
  not_itself x = elim (lt x x) as (λ b. lt x x ≡ b → b ≡ false) [ true ↦ λ is. sym is ∙ laws.one_way x x is | false ↦ λ is. refl ] refl

  tie_itself : (x : X) → ties lt x x ≡ true
  tie_itself x =
      elim (lt x x) as (λ b. lt x x ≡ b → not b && not b ≡ true) [ true ↦ λ is. absurd (let other = laws.one_way x x is in cc) | false ↦ λ is. refl ] refl

  -- ---- one list alone rises and has these ties

  abbrev Alike : List X → List X → Type 0
  Alike ys zs = (x : X) → filter (ties lt x) ys ≡ filter (ties lt x) zs

  all-kept : (P : X → Type 0) (p : X → Bool) (xs : List X) → AllByRecursion P xs → AllByRecursion P (filter p xs)
  all-kept P p [] all = tt
  all-kept P p (y ∷ ys) all =
      elim (p y) as (λ s. AllByRecursion P (cond s (y ∷ filter p ys) (filter p ys))) [
        | true ↦ (all.0, all-kept P p ys all.1)
        | false ↦ all-kept P p ys all.1
      ]

  keeps_first : (x : X) (xs : List X) → filter (ties lt x) (x ∷ xs) ≡ x ∷ filter (ties lt x) xs
  keeps_first x xs = ap (λ s. cond s (x ∷ filter (ties lt x) xs) (filter (ties lt x) xs)) (tie_itself x)

  -- the head of a list that rises is not after what ties with some of it
  not_after : (y z : X) (ys zs : List X) → Alike (y ∷ ys) (z ∷ zs) → Rises (z ∷ zs) → lt y z ≡ false
  not_after y z ys zs alike rises =
      let all : AllByRecursion (λ x. lt x z ≡ false) (filter (ties lt y) (z ∷ zs)) = all-kept (λ x. lt x z ≡ false) (ties lt y) (z ∷ zs) (not_itself z, rises.0) in
      (subst (AllByRecursion (λ x. lt x z ≡ false)) (sym (alike y) ∙ keeps_first y ys) all).0

  same_heads : (x y : X) (xs ys : List X) → x ∷ xs ≡ y ∷ ys → x ≡ y
  same_heads x y xs ys is = cc

  same_tails : (x y : X) (xs ys : List X) → x ∷ xs ≡ y ∷ ys → xs ≡ ys
  same_tails x y xs ys is = cc

  both : (a b : Bool) → a ≡ false → b ≡ false → not a && not b ≡ true
  both a b p q = cc

  first_alike : (y z : X) (ys zs : List X) → Alike (y ∷ ys) (z ∷ zs) → Rises (y ∷ ys) → Rises (z ∷ zs) → y ≡ z
  first_alike y z ys zs alike up_y up_z =
      let tied : ties lt y z ≡ true = both (lt y z) (lt z y) (not_after y z ys zs alike up_z) (not_after z y zs ys (λ x. sym (alike x)) up_y) in
      same_heads y z (filter (ties lt y) ys) (filter (ties lt y) zs)
      (sym (keeps_first y ys) ∙ alike y ∙ ap (λ s. cond s (z ∷ filter (ties lt y) zs) (filter (ties lt y) zs)) tied)

  rest_alike : (y : X) (ys zs : List X) → Alike (y ∷ ys) (y ∷ zs) → Alike ys zs
  rest_alike y ys zs alike x =
      elim (ties lt x y) as (λ s. cond s (y ∷ filter (ties lt x) ys) (filter (ties lt x) ys) ≡ cond s (y ∷ filter (ties lt x) zs) (filter (ties lt x) zs) → filter (ties lt x) ys ≡ filter (ties lt x) zs) [
        | true ↦ λ is. same_tails y y _ _ is
        | false ↦ λ is. is
      ] (alike x)

  pub one_order : (ys zs : List X) → Rises ys → Rises zs → Alike ys zs → ys ≡ zs
  one_order [] [] up_y up_z alike = refl
  one_order [] (z ∷ zs) up_y up_z alike = absurd (let gone = alike z ∙ keeps_first z zs in cc)
  one_order (y ∷ ys) [] up_y up_z alike = absurd (let gone = sym (alike y) ∙ keeps_first y ys in cc)
  one_order (y ∷ ys) (z ∷ zs) up_y up_z alike =
      let head : y ≡ z = first_alike y z ys zs alike up_y up_z in
      let rest : ys ≡ zs = one_order ys zs up_y.1 up_z.1 (rest_alike y ys zs (subst (λ x. Alike (y ∷ ys) (x ∷ zs)) (sym head) alike)) in
      cc (head, rest)

module _ {X : Type 0} (order : X → X → Ordering) (laws : IsStrictWeakOrder (λ x y. is_lt (order x y))) where
  abbrev lt : X → X → Bool
  lt x y = is_lt (order x y)

  -- ---- what is put in order rises and has the ties of the list

  all-put : (P : X → Type 0) (x : X) (ys : List X) → P x → AllByRecursion P ys → AllByRecursion P (put order x ys)
  all-put P x [] here all = (here, tt)
  all-put P x (y ∷ ys) here all =
      elim (lt y x) as (λ s. AllByRecursion P (cond s (y ∷ put order x ys) (x ∷ y ∷ ys))) [
        | true ↦ (all.0, all-put P x ys here all.1)
        | false ↦ (here, all)
      ]

  -- what is not after x is not after what is not before x
  all-below : (x y : X) (ys : List X) → lt y x ≡ false → AllByRecursion (λ z. lt z y ≡ false) ys → AllByRecursion (λ z. lt z x ≡ false) ys
  all-below x y [] first all = tt
  all-below x y (z ∷ zs) first all = (laws.chain z y x all.0 first, all-below x y zs first all.1)

  rises-put : (x : X) (ys : List X) → Rises lt laws ys → Rises lt laws (put order x ys)
  rises-put x [] up = (tt, tt)
  rises-put x (y ∷ ys) up =
      elim (lt y x) as (λ s. lt y x ≡ s → Rises lt laws (cond s (y ∷ put order x ys) (x ∷ y ∷ ys))) [
        | true ↦ λ is. (all-put (λ z. lt z y ≡ false) x ys (laws.one_way y x is) up.0, rises-put x ys up.1)
        | false ↦ λ is. ((is, all-below x y ys is up.0), up)
      ] refl

  pub Rises-in_order : (xs : List X) → Rises lt laws (in_order order xs)
  Rises-in_order [] = tt
  Rises-in_order (x ∷ xs) = rises-put x (in_order order xs) (Rises-in_order xs)

  no_other : (b : Bool) → b && false ≡ false
  no_other true = refl
  no_other false = refl

  not_above : (a b : Bool) → not a && not b ≡ true → a ≡ false
  not_above true b is = absurd (cc)
  not_above false b is = refl

  apart_ties : (w x y : X) → lt y x ≡ true → ties lt w x ≡ true → ties lt w y ≡ false
  apart_ties w x y before tied =
      elim (lt y w) as (λ b. lt y w ≡ b → not (lt w y) && not b ≡ false) [
        | true ↦ λ is. no_other (not (lt w y))
        | false ↦ λ is. absurd (let other = laws.chain y w x is (not_above (lt w x) (lt x w) tied) in cc)
      ] refl

  passed : (a b : Bool) (x y : X) (l : List X) → (a ≡ true → b ≡ false) → cond b (y ∷ cond a (x ∷ l) l) (cond a (x ∷ l) l) ≡ cond a (x ∷ cond b (y ∷ l) l) (cond b (y ∷ l) l)
  passed true b x y l h = ap (λ s. cond s (y ∷ x ∷ l) (x ∷ l)) (h refl) ∙ ap (λ s. x ∷ cond s (y ∷ l) l) (sym (h refl))
  passed false b x y l h = refl

  ties-put : (w x : X) (ys : List X) → filter (ties lt w) (put order x ys) ≡ filter (ties lt w) (x ∷ ys)
  ties-put w x [] = refl
  ties-put w x (y ∷ ys) =
      elim (lt y x) as (λ s. lt y x ≡ s → filter (ties lt w) (cond s (y ∷ put order x ys) (x ∷ y ∷ ys)) ≡ filter (ties lt w) (x ∷ y ∷ ys)) [
        | true ↦ λ is.
            ap (λ l. cond (ties lt w y) (y ∷ l) l) (ties-put w x ys)
            ∙ passed (ties lt w x) (ties lt w y) x y (filter (ties lt w) ys) (apart_ties w x y is)
        | false ↦ λ is. refl
      ] refl

  pub ties-in_order : (w : X) (xs : List X) → filter (ties lt w) (in_order order xs) ≡ filter (ties lt w) xs
  ties-in_order w [] = refl
  ties-in_order w (x ∷ xs) = ties-put w x (in_order order xs) ∙ ap (λ l. cond (ties lt w x) (x ∷ l) l) (ties-in_order w xs)

  -- what is in order and has the ties of the list is the list in order
  pub in_order_is : (xs ys : List X) → IsSortedBy lt ys → IsStableBy lt xs ys → ys ≡ in_order order xs
  in_order_is xs ys sorted stable =
      one_order lt laws ys (in_order order xs) (Rises-from_sorted lt laws ys sorted) (Rises-in_order xs) (λ x. stable x ∙ sym (ties-in_order x xs))

  zero_more : 0 + 1 ≡ 1
  zero_more = omega arith

  suc_more : (k : ℕ) → suc k + 1 ≡ suc (k + 1)
  suc_more k = omega arith

  adjacent : (xs : List X) → Rises lt laws xs → (k : ℕ) (d : X) → k + 1 < length xs → lt (get_or xs (k + 1) d) (get_or xs k d) ≡ false
  adjacent [] up k d below = absurd (omega arith)
  adjacent (x ∷ []) up k d below = absurd (omega arith)
  adjacent (x ∷ y ∷ ys) up zero d below = ap (λ n. lt (get_or (x ∷ y ∷ ys) n d) x) zero_more ∙ up.0.0
  adjacent (x ∷ y ∷ ys) up (suc k) d below =
      ap (λ n. lt (get_or (x ∷ y ∷ ys) n d) (get_or (y ∷ ys) k d)) (suc_more k) ∙ adjacent (y ∷ ys) up.1 k d (omega arith)

  pub sorted_in_order : (xs : List X) → IsSortedBy lt (in_order order xs)
  sorted_in_order xs k d low below = adjacent (in_order order xs) (Rises-in_order xs) k d below

  pub stable_in_order : (xs : List X) → IsStableBy lt xs (in_order order xs)
  stable_in_order xs w = ties-in_order w xs
