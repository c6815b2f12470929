-- Places in a list, and in the list of what a function makes of each element.
use Rattle.std.proofs.Common.{◌≡◌, ℕ, zero, suc, ◌+◌, ◌<◌, Bool, true, false, not, nat_lt, cond, List, [], ◌∷◌, map, length, get_or, Some, None, position, refl, ap, sym, ◌∙◌, arith}
use Rattle.std.specs.Prelude.{slice_get}
use Rattle.std.specs.List.{position_or_len, prefix_len, list_any}

prefix_len-map : {A B : Type 0} (f : A → B) (test : B → Bool) (xs : List A) → prefix_len test (map f xs) ≡ prefix_len (λ x. test (f x)) xs
prefix_len-map f test [] = refl
prefix_len-map f test (x ∷ xs) = ap (λ (n : ℕ). cond (test (f x)) (1 + n) 0) (prefix_len-map f test xs)

length-of-map : {A B : Type 0} (f : A → B) (xs : List A) → length (map f xs) ≡ length xs
length-of-map f [] = refl
length-of-map f (x ∷ xs) = ap (λ (n : ℕ). suc n) (length-of-map f xs)

-- the place of what a function makes of an element
pub position-map : {A B : Type 0} (f : A → B) (test : B → Bool) (xs : List A) → position test (map f xs) ≡ position (λ x. test (f x)) xs
position-map f test xs =
    ap (λ (n : ℕ). cond (nat_lt n (length (map f xs))) (Some n) None) (prefix_len-map f (λ x. not (test x)) xs)
    ∙ ap (λ (n : ℕ). cond (nat_lt (position_or_len (λ x. test (f x)) xs) n) (Some (position_or_len (λ x. test (f x)) xs)) None) (length-of-map f xs)

any_by : {A : Type 0} (test : A → Bool) (x : A) (xs : List A) (b : Bool) → test x ≡ b
    → (list_any test xs ≡ true → position_or_len test xs < length xs)
    → list_any test (x ∷ xs) ≡ true → position_or_len test (x ∷ xs) < length (x ∷ xs)
any_by test x xs true h rest any = rw h (omega arith)
any_by test x xs false h rest any = let later : position_or_len test xs < length xs = rest (rw h at any) in rw h (omega (arith, later))

-- where an element passes, there is a first one
any_within : {A : Type 0} (test : A → Bool) (xs : List A) → list_any test xs ≡ true → position_or_len test xs < length xs
any_within test [] any = cc
any_within test (x ∷ xs) any = any_by test x xs (test x) refl (any_within test xs) any

none_by : {A : Type 0} (test : A → Bool) (xs : List A) (b : Bool) → list_any test xs ≡ b → position test xs ≡ None → list_any test xs ≡ false
none_by test xs false h none = h
none_by test xs true h none =
    let within : nat_lt (position_or_len test xs) (length xs) ≡ true = grind (arith, any_within test xs h) in
    let found : position test xs ≡ Some (position_or_len test xs) = rw within refl in
    cc

-- where there is no first element that passes, none passes
pub none_passes : {A : Type 0} (test : A → Bool) (xs : List A) → position test xs ≡ None → list_any test xs ≡ false
none_passes test xs none = none_by test xs (list_any test xs) refl none

-- what is written at a place is there
pub at_place : {A : Type 0} (xs : List A) (i : ℕ) (r x : A) → slice_get xs i ≡ Some x → r ≡ get_or xs i r → r ≡ x
at_place [] i r x at is = cc
at_place (y ∷ xs) zero r x at is = cc
at_place (y ∷ xs) (suc i) r x at is = at_place xs i r x at is

-- what is read at a place within is found there
pub found_at : {A : Type 0} (xs : List A) (i : ℕ) (r : A) → i < length xs → r ≡ get_or xs i r → slice_get xs i ≡ Some r
found_at [] i r within is = absurd (omega (arith, within))
found_at (y ∷ xs) zero r within is = ap Some (sym is)
found_at (y ∷ xs) (suc i) r within is = found_at xs i r (omega (arith, within)) is
