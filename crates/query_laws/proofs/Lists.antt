-- Lists: what is true of each element stays true of what a phase of an answer makes of them.
use Rattle.std.proofs.Common.{◌≡◌, refl, ap, subst, ℕ, zero, suc, ◌+◌, ◌≤◌, ◌<◌, List, [], ◌∷◌, ◌++◌, map, take, length, get_or, filter, zip, Bool, true, false, not, Ok, Err, arith, if◌then◌else◌, cond}
use Rattle.std.specs.List.{items_where_true}
use Rattle.std.specs.declared.cmp.Ordering.{Ordering}
use Rattle.std.specs.Ordering.{is_lt}
use Rattle.bound_tree.specs.Outcomes.{Outcome, after}
use Rattle.group_rows.specs.Equals.{classes, firsts, places_from}
use Rattle.group_rows.specs.Ordered.{in_order, put}
use Rattle.query_eval.specs.Phases.{each}
use Rattle.query_laws.specs.Laws.{AllOf}

pub all_of_both : {A : Type 0} (P : A → Type 0) (xs ys : List A) → AllOf P xs → AllOf P ys → AllOf P (xs ++ ys)
all_of_both P [] ys h g = g
all_of_both P (x ∷ xs) ys h g = (h.0, all_of_both P xs ys h.1 g)

pub all_of_each : {A : Type 0} (P Q : A → Type 0) (xs : List A) → ((x : A) → P x → Q x) → AllOf P xs → AllOf Q xs
all_of_each P Q [] f h = tt
all_of_each P Q (x ∷ xs) f h = (f x h.0, all_of_each P Q xs f h.1)

pub all_of_map : {A B : Type 0} (f : A → B) (P : B → Type 0) (xs : List A) → AllOf (λ x. P (f x)) xs → AllOf P (map f xs)
all_of_map f P [] h = tt
all_of_map f P (x ∷ xs) h = (h.0, all_of_map f P xs h.1)

pub all_at : {A : Type 0} (P : A → Type 0) (xs : List A) → AllOf P xs → (i : ℕ) (d : A) → i < length xs → P (get_or xs i d)
all_at P [] h i d below = absurd (omega (arith, below))
all_at P (x ∷ xs) h zero d below = h.0
all_at P (x ∷ xs) h (suc i) d below = all_at P xs h.1 i d (omega (arith, below))

pub all_where : {A : Type 0} (P : A → Type 0) (flags : List Bool) (xs : List A) → AllOf P xs → AllOf P (items_where_true flags xs)
all_where P [] xs h = tt
all_where P (b ∷ flags) [] h = tt
all_where P (true ∷ flags) (x ∷ xs) h = (h.0, all_where P flags xs h.1)
all_where P (false ∷ flags) (x ∷ xs) h = all_where P flags xs h.1

pub all_filter : {A : Type 0} (P : A → Type 0) (test : A → Bool) (xs : List A) → AllOf P xs → AllOf P (filter test xs)
all_filter P test [] h = tt
all_filter P test (x ∷ xs) h = by_test (test x) (all_filter P test xs h.1)
  where
    by_test : (b : Bool) → AllOf P (filter test xs) → AllOf P (cond b (x ∷ filter test xs) (filter test xs))
    by_test true g = (h.0, g)
    by_test false g = g

pub all_take : {A : Type 0} (P : A → Type 0) (n : ℕ) (xs : List A) → AllOf P xs → AllOf P (take n xs)
all_take P zero xs h = tt
all_take P (suc n) [] h = tt
all_take P (suc n) (x ∷ xs) h = (h.0, all_take P n xs h.1)

pub all_firsts : {A : Type 0} (P : A → Type 0) (same : A → A → Bool) (xs : List A) → AllOf P xs → AllOf P (firsts same xs)
all_firsts P same [] h = tt
all_firsts P same (x ∷ rest) h = (h.0, all_filter P (λ other. not (same x other)) (firsts same rest) (all_firsts P same rest h.1))

-- the second of pairs
pub all_zip : {A B : Type 0} (P : B → Type 0) (xs : List A) (ys : List B) → AllOf P ys → AllOf (λ pair. P pair.1) (zip xs ys)
all_zip P [] ys h = tt
all_zip P (x ∷ xs) [] h = tt
all_zip P (x ∷ xs) (y ∷ ys) h = (h.0, all_zip P xs ys h.1)

-- the first of pairs
pub all_zip_first : {A B : Type 0} (P : A → Type 0) (xs : List A) (ys : List B) → AllOf P xs → AllOf (λ pair. P pair.0) (zip xs ys)
all_zip_first P [] ys h = tt
all_zip_first P (x ∷ xs) [] h = tt
all_zip_first P (x ∷ xs) (y ∷ ys) h = (h.0, all_zip_first P xs ys h.1)

pub all_put : {A : Type 0} (P : A → Type 0) (order : A → A → Ordering) (x : A) (ys : List A) → P x → AllOf P ys → AllOf P (put order x ys)
all_put P order x [] h g = (h, tt)
all_put P order x (y ∷ ys) h g = by_test (is_lt (order y x)) (all_put P order x ys h g.1)
  where
    by_test : (b : Bool) → AllOf P (put order x ys) → AllOf P (if b then y ∷ put order x ys else x ∷ y ∷ ys)
    by_test true f = (g.0, f)
    by_test false f = (h, g)

pub all_in_order : {A : Type 0} (P : A → Type 0) (order : A → A → Ordering) (xs : List A) → AllOf P xs → AllOf P (in_order order xs)
all_in_order P order [] h = tt
all_in_order P order (x ∷ xs) h = all_put P order x (in_order order xs) h.0 (all_in_order P order xs h.1)

-- what is given for each has a property, and there are as many
pub each_gives : {A B : Type 0} (f : A → Outcome B) (Q : B → Type 0) (xs : List A) (ys : List B) → each f xs ≡ Ok ys → AllOf (λ x. (y : B) → f x ≡ Ok y → Q y) xs → AllOf Q ys × (length ys ≡ length xs)
each_gives f Q [] ys e h = let same : [] ≡ ys = cc in subst (λ ys. AllOf Q ys × (length ys ≡ 0)) same (tt, refl)
each_gives {A = A} {B = B} f Q (x ∷ xs) ys e h = of_first (f x) refl (each f xs) refl e (λ zs d. each_gives f Q xs zs d h.1)
  where
    of_first : (o : Outcome B) → f x ≡ o → (rest : Outcome (List B)) → each f xs ≡ rest → after o (λ y. after rest (λ zs. Ok (y ∷ zs))) ≡ Ok ys → ((zs : List B) → each f xs ≡ Ok zs → AllOf Q zs × (length zs ≡ length xs)) → AllOf Q ys × (length ys ≡ suc (length xs))
    of_first (Ok y) d (Ok zs) c e again = let same : (y ∷ zs) ≡ ys = cc in subst (λ ys. AllOf Q ys × (length ys ≡ suc (length xs))) same ((h.0 y d, (again zs c).0), ap suc (again zs c).1)
    of_first (Ok y) d (Err n) c e again = cc
    of_first (Err n) d rest c e again = cc

-- ---- classes

places_below : {A : Type 0} (same : A → A → Bool) (n place : ℕ) (x : A) (xs : List A) → place + length xs ≤ n → AllOf (λ p. p < n) (places_from same place x xs)
places_below same n place x [] le = tt
places_below same n place x (other ∷ rest) le = by_test (same x other) (places_below same n (place + 1) x rest (omega (arith, le)))
  where
    by_test : (b : Bool) → AllOf (λ p. p < n) (places_from same (place + 1) x rest) → AllOf (λ p. p < n) (if b then place ∷ places_from same (place + 1) x rest else places_from same (place + 1) x rest)
    by_test true h = (omega (arith, le), h)
    by_test false h = h

-- the places of classes are those of members
pub classes_below : {A : Type 0} (same : A → A → Bool) (xs : List A) → AllOf (λ class. AllOf (λ p. p < length xs) class) (classes same xs)
classes_below same xs = of_firsts (firsts same xs)
  where
    of_firsts : (ys : List _) → AllOf (λ class. AllOf (λ p. p < length xs) class) (map (λ x. places_from same 0 x xs) ys)
    of_firsts [] = tt
    of_firsts (y ∷ ys) = (places_below same (length xs) 0 y xs (omega arith), of_firsts ys)
