-- Two lists at once, of which the one is gone through and the rest of the other is kept.
use Rattle.std.proofs.Common.{◌≡◌, refl, sym, ap, ◌∙◌, ℕ, ◌-◌, ◌<◌, ◌≤◌, List, [], ◌∷◌, ◌++◌, length, map, take, drop, get_or, append-nil, arith}
use Rattle.std.proofs.lemmas.List.{take_all, length-drop}
use Rattle.std.specs.List.{flat_map, zip}

-- the first of a list and the rest of it
pub rest_is : {A : Type 0} (xs : List A) (x : A) → 1 ≤ length xs → x ≡ get_or xs 0 x → xs ≡ x ∷ take (length xs - 1) (drop 1 xs)
rest_is [] x some is = absurd (omega (arith, some))
rest_is (y ∷ ys) x some is =
    let fewer : length (y ∷ ys) - 1 ≡ length ys = omega arith in
    ap (λ z. z ∷ ys) (sym is) ∙ ap (λ zs. x ∷ zs) (sym (take_all (length (y ∷ ys) - 1) ys (omega (arith, fewer))))

pub none_of : {A : Type 0} (xs : List A) → length xs < 1 → xs ≡ []
none_of [] short = refl
none_of (x ∷ xs) short = absurd (omega (arith, short))

pub zip_nil : {A B : Type 0} (xs : List A) → zip {K = A} {X = B} xs [] ≡ []
zip_nil [] = refl
zip_nil (x ∷ xs) = refl

-- ---- nothing is left of the list that is gone through

pub pairs_done : {A B C : Type 0} (f : A × B → C) (done : List C) (xs : List A) (ys : List B) (whole : List C) → ys ≡ [] → done ++ map f (zip xs ys) ≡ whole → done ≡ whole
pairs_done f done xs ys whole none so_far =
    sym (append-nil done) ∙ sym (ap (λ zs. done ++ map f (zip xs zs)) none ∙ ap (λ ps. done ++ map f ps) (zip_nil xs)) ∙ so_far

pub flat_done : {A B C : Type 0} (f : A × B → List C) (done : List C) (xs : List A) (ys : List B) (n : ℕ) (whole : List C) → length ys ≤ n → done ++ flat_map f (zip xs (drop n ys)) ≡ whole → done ≡ whole
flat_done f done xs ys n whole all so_far =
    let none : drop n ys ≡ [] = none_of (drop n ys) (simp length-drop (omega arith)) in
    sym (append-nil done) ∙ sym (ap (λ zs. done ++ flat_map f (zip xs zs)) none ∙ ap (λ ps. done ++ flat_map f ps) (zip_nil xs)) ∙ so_far
