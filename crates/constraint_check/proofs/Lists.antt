-- What is true of each element of a list, and of some.
use Rattle.std.proofs.Common.{◌≡◌, refl, sym, ap, ◌∙◌, subst, suc, ◌≤◌, ◌⊎◌, inl, inr, Bool, true, false, ◌||◌, cond, List, [], ◌∷◌, ◌++◌, length, map, filter, arith}
use Rattle.std.specs.List.{AllByRecursion, flat_map, list_any}

module _ {A : Type 0} where
  -- of some element
  abbrev pub Among : (A → Type 0) → List A → Type 0
  Among P [] = ⊥
  Among P (x ∷ xs) = P x ⊎ Among P xs

  pub all_left : (P : A → Type 0) (xs ys : List A) → AllByRecursion P (xs ++ ys) → AllByRecursion P xs
  all_left P [] ys h = tt
  all_left P (x ∷ xs) ys h = (h.0, all_left P xs ys h.1)

  pub all_right : (P : A → Type 0) (xs ys : List A) → AllByRecursion P (xs ++ ys) → AllByRecursion P ys
  all_right P [] ys h = h
  all_right P (x ∷ xs) ys h = all_right P xs ys h.1

  pub all_more : (P Q : A → Type 0) → ((x : A) → P x → Q x) → (xs : List A) → AllByRecursion P xs → AllByRecursion Q xs
  all_more P Q f [] h = tt
  all_more P Q f (x ∷ xs) h = (f x h.0, all_more P Q f xs h.1)

  pub all_filter : (P : A → Type 0) (p : A → Bool) (xs : List A) → AllByRecursion P (filter p xs) → AllByRecursion (λ x. p x ≡ true → P x) xs
  all_filter P p [] h = tt
  all_filter P p (x ∷ xs) h = by_test (p x) refl h (all_filter P p xs)
    where
      by_test : (b : Bool) → p x ≡ b → AllByRecursion P (cond b (x ∷ filter p xs) (filter p xs)) → (AllByRecursion P (filter p xs) → AllByRecursion (λ x. p x ≡ true → P x) xs) → (p x ≡ true → P x) × AllByRecursion (λ x. p x ≡ true → P x) xs
      by_test true is h rest = ((λ passes. h.0), rest h.1)
      by_test false is h rest = ((λ passes. absurd (let both : false ≡ true = sym is ∙ passes in cc)), rest h)

  pub among_both : (P Q : A → Type 0) (xs : List A) → AllByRecursion P xs → Among Q xs → Among (λ x. P x × Q x) xs
  among_both P Q (x ∷ xs) h (inl here) = inl (h.0, here)
  among_both P Q (x ∷ xs) h (inr later) = inr (among_both P Q xs h.1 later)
  among_both P Q [] h none = absurd none

  pub among_more : (P Q : A → Type 0) → ((x : A) → P x → Q x) → (xs : List A) → Among P xs → Among Q xs
  among_more P Q f [] none = none
  among_more P Q f (x ∷ xs) (inl here) = inl (f x here)
  among_more P Q f (x ∷ xs) (inr later) = inr (among_more P Q f xs later)

  -- what follows from some element, whichever it is
  pub from_among : (P : A → Type 0) (R : Type 0) → ((x : A) → P x → R) → (xs : List A) → Among P xs → R
  from_among P R f [] none = absurd none
  from_among P R f (x ∷ xs) (inl here) = f x here
  from_among P R f (x ∷ xs) (inr later) = from_among P R f xs later

  pub among_right : (P : A → Type 0) (xs ys : List A) → Among P ys → Among P (xs ++ ys)
  among_right P [] ys h = h
  among_right P (x ∷ xs) ys h = inr (among_right P xs ys h)

  pub among_left : (P : A → Type 0) (xs ys : List A) → Among P xs → Among P (xs ++ ys)
  among_left P [] ys h = absurd h
  among_left P (x ∷ xs) ys (inl here) = inl here
  among_left P (x ∷ xs) ys (inr later) = inr (among_left P xs ys later)

  -- a test that some element passes
  pub among_any : (p : A → Bool) (xs : List A) → list_any p xs ≡ true → Among (λ x. p x ≡ true) xs
  among_any p [] h = absurd (let both : false ≡ true = h in cc)
  among_any p (x ∷ xs) h = by_test (p x) refl h (among_any p xs)
    where
      by_test : (b : Bool) → p x ≡ b → (b || list_any p xs) ≡ true → (list_any p xs ≡ true → Among (λ x. p x ≡ true) xs) → (p x ≡ true) ⊎ Among (λ x. p x ≡ true) xs
      by_test true is h rest = inl is
      by_test false is h rest = inr (rest h)

  pub among_split : (P : A → Type 0) (xs ys : List A) → Among P (xs ++ ys) → Among P xs ⊎ Among P ys
  among_split P [] ys h = inr h
  among_split P (x ∷ xs) ys (inl here) = inl (inl here)
  among_split P (x ∷ xs) ys (inr later) = elim (among_split P xs ys later) [
    | inl early ↦ inl (inr early)
    | inr late ↦ inr late
  ]

  -- ---- how many pass

  -- where one passes at least, some element does
  pub counted : (p : A → Bool) (xs : List A) → 1 ≤ length (filter p xs) → Among (λ x. p x ≡ true) xs
  counted p [] some = absurd (omega (arith, some))
  counted p (x ∷ xs) some = by_test (p x) refl some (counted p xs)
    where
      by_test : (b : Bool) → p x ≡ b → 1 ≤ length (cond b (x ∷ filter p xs) (filter p xs)) → (1 ≤ length (filter p xs) → Among (λ x. p x ≡ true) xs) → (p x ≡ true) ⊎ Among (λ x. p x ≡ true) xs
      by_test true is some rest = inl is
      by_test false is some rest = inr (rest some)

  pub count_one : (p : A → Bool) (xs : List A) → Among (λ x. p x ≡ true) xs → 1 ≤ length (filter p xs)
  count_one p [] none = absurd none
  count_one p (x ∷ xs) (inl here) = subst (λ (b : Bool). 1 ≤ length (cond b (x ∷ filter p xs) (filter p xs))) (sym here) (omega arith)
  count_one p (x ∷ xs) (inr later) = by_test (p x) (count_one p xs later)
    where
      by_test : (b : Bool) → 1 ≤ length (filter p xs) → 1 ≤ length (cond b (x ∷ filter p xs) (filter p xs))
      by_test true some = omega arith
      by_test false some = some

  fewer : (p : A → Bool) (x : A) (xs : List A) → length (filter p (x ∷ xs)) ≤ 1 → length (filter p xs) ≤ 1
  fewer p x xs few = by_test (p x) few
    where
      by_test : (b : Bool) → length (cond b (x ∷ filter p xs) (filter p xs)) ≤ 1 → length (filter p xs) ≤ 1
      by_test true few = omega (arith, few)
      by_test false few = few

  one_alone : (p : A → Bool) (x : A) (xs : List A) → p x ≡ true → Among (λ x. p x ≡ true) xs → length (filter p (x ∷ xs)) ≤ 1 → ⊥
  one_alone p x xs here later few =
      let both : length (x ∷ filter p xs) ≤ 1 = subst (λ (b : Bool). length (cond b (x ∷ filter p xs) (filter p xs)) ≤ 1) here few in
      let some : 1 ≤ length (filter p xs) = count_one p xs later in
      absurd (omega (arith, both, some))

  -- where one passes at most, two that pass are one
  pub one_passes : (p : A → Bool) (P Q : A → Type 0) (xs : List A) → Among (λ x. P x × (p x ≡ true)) xs → Among (λ x. Q x × (p x ≡ true)) xs → length (filter p xs) ≤ 1 → Among (λ x. P x × Q x) xs
  one_passes p P Q [] none other few = none
  one_passes p P Q (x ∷ xs) (inl a) (inl b) few = inl (a.0, b.0)
  one_passes p P Q (x ∷ xs) (inl a) (inr b) few = absurd (one_alone p x xs a.1 (among_more (λ x. Q x × (p x ≡ true)) (λ x. p x ≡ true) (λ x h. h.1) xs b) few)
  one_passes p P Q (x ∷ xs) (inr a) (inl b) few = absurd (one_alone p x xs b.1 (among_more (λ x. P x × (p x ≡ true)) (λ x. p x ≡ true) (λ x h. h.1) xs a) few)
  one_passes p P Q (x ∷ xs) (inr a) (inr b) few = inr (one_passes p P Q xs a b (fewer p x xs few))

pub all_map : {A B : Type 0} (P : B → Type 0) (f : A → B) (xs : List A) → AllByRecursion P (map f xs) → AllByRecursion (λ x. P (f x)) xs
all_map P f [] h = tt
all_map P f (x ∷ xs) h = (h.0, all_map P f xs h.1)

pub all_flat : {A B : Type 0} (P : B → Type 0) (f : A → List B) (xs : List A) → AllByRecursion P (flat_map f xs) → AllByRecursion (λ x. AllByRecursion P (f x)) xs
all_flat P f [] h = tt
all_flat P f (x ∷ xs) h = (all_left P (f x) (flat_map f xs) h, all_flat P f xs (all_right P (f x) (flat_map f xs) h))

pub all_two : {A : Type 0} (P Q R : A → Type 0) → ((x : A) → P x → Q x → R x) → (xs : List A) → AllByRecursion P xs → AllByRecursion Q xs → AllByRecursion R xs
all_two P Q R f [] h g = tt
all_two P Q R f (x ∷ xs) h g = (f x h.0 g.0, all_two P Q R f xs h.1 g.1)

-- a fact for each of a family
pub all_given : {A I : Type 0} (P : I → A → Type 0) (xs : List A) → ((i : I) → AllByRecursion (P i) xs) → AllByRecursion (λ x. (i : I) → P i x) xs
all_given P [] h = tt
all_given P (x ∷ xs) h = ((λ i. (h i).0), all_given P xs (λ i. (h i).1))

-- how many pass of what is made of a list
pub count-map : {A B : Type 0} (p : B → Bool) (f : A → B) (xs : List A) → length (filter p (map f xs)) ≡ length (filter (λ x. p (f x)) xs)
count-map p f [] = refl
count-map p f (x ∷ xs) = by_test (p (f x)) (count-map p f xs)
  where
    by_test : (b : Bool) → length (filter p (map f xs)) ≡ length (filter (λ x. p (f x)) xs) → length (cond b (f x ∷ filter p (map f xs)) (filter p (map f xs))) ≡ length (cond b (x ∷ filter (λ x. p (f x)) xs) (filter (λ x. p (f x)) xs))
    by_test true same = ap suc same
    by_test false same = same
