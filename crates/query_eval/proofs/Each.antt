-- What a function gives for each of a list, from the first on, as a loop finds it: what is so far, and then the rest.
use Rattle.std.proofs.Common.{◌≡◌, refl, sym, ap, ◌∙◌, ℕ, ◌+◌, ◌<◌, List, [], ◌∷◌, ◌++◌, map, length, get_or, drop, Ok, Err, append-nil, append_assoc}
use Rattle.std.proofs.lemmas.List.{drop_more}
use Rattle.bound_tree.specs.Outcomes.{Outcome, after}
use Rattle.query_eval.specs.declared.fault.Stop.{Stop}
use Rattle.query_eval.specs.declared.fault.Stop.TheVariants.{Number, Memory}
use Rattle.query_eval.specs.Phases.{each}

-- what is found for each, behind what is found so far
abbrev pub each_onto : {A B : Type 0} → (A → Outcome B) → List B → List A → Outcome (List B)
each_onto f done [] = Ok done
each_onto f done (x ∷ xs) = after (f x) (λ y. each_onto f (done ++ y ∷ []) xs)

behind_one : {B : Type 0} (done : List B) (y : B) (rest : Outcome (List B))
    → after rest (λ more. Ok ((done ++ y ∷ []) ++ more)) ≡ after (after rest (λ ys. Ok (y ∷ ys))) (λ more. Ok (done ++ more))
behind_one done y (Ok more) = ap Ok (append_assoc done (y ∷ []) more)
behind_one done y (Err number) = refl

pub each_behind : {A B : Type 0} (f : A → Outcome B) (done : List B) (xs : List A) → each_onto f done xs ≡ after (each f xs) (λ more. Ok (done ++ more))
each_behind f done [] = ap Ok (sym (append-nil done))
each_behind {A} {B} f done (x ∷ xs) =
    elim (f x) as (λ (o : Outcome B). after o (λ y. each_onto f (done ++ y ∷ []) xs) ≡ after (after o (λ y. after (each f xs) (λ ys. Ok (y ∷ ys)))) (λ more. Ok (done ++ more))) [
      | Ok y ↦ each_behind f (done ++ y ∷ []) xs ∙ behind_one done y (each f xs)
      | Err number ↦ refl
    ]

behind_none : {B : Type 0} (rest : Outcome (List B)) → after rest (λ more. Ok ([] ++ more)) ≡ rest
behind_none (Ok more) = refl
behind_none (Err number) = refl

pub each_onto_is : {A B : Type 0} (f : A → Outcome B) (xs : List A) → each_onto f [] xs ≡ each f xs
each_onto_is f xs = each_behind f [] xs ∙ behind_none (each f xs)

-- of those that another list stands for
pub each_map : {A B C : Type 0} (f : B → Outcome C) (g : A → B) (xs : List A) → each f (map g xs) ≡ each (λ x. f (g x)) xs
each_map f g [] = refl
each_map f g (x ∷ xs) = ap (λ rest. after (f (g x)) (λ y. after rest (λ ys. Ok (y ∷ ys)))) (each_map f g xs)

-- by a function that gives the same of each
pub each_same : {A B : Type 0} (f g : A → Outcome B) → ((x : A) → f x ≡ g x) → (xs : List A) → each f xs ≡ each g xs
each_same f g same [] = refl
each_same f g same (x ∷ xs) =
    ap (λ first. after first (λ y. after (each f xs) (λ ys. Ok (y ∷ ys)))) (same x)
    ∙ ap (λ rest. after (g x) (λ y. after rest (λ ys. Ok (y ∷ ys)))) (each_same f g same xs)

-- ---- at the next of a list

-- that a fault is what is found says nothing of what else there would be
abbrev pub FindsFault : {B : Type 0} → Stop → Outcome B → Type 0
FindsFault (Number number) outcome = outcome ≡ Err number
FindsFault Memory outcome = Unit {0}

module _ {A B : Type 0} (f : A → Outcome B) (xs : List A) (whole : Outcome (List B)) (done : List B) (i : ℕ) (x : A)
    (below : i < length xs) (is : x ≡ get_or xs i x) (so_far : each_onto f done (drop i xs) ≡ whole) where
  each_here : after (f x) (λ y. each_onto f (done ++ y ∷ []) (drop (i + 1) xs)) ≡ whole
  each_here = sym (ap (each_onto f done) (drop_more xs i x below ∙ ap (λ z. z ∷ drop (i + 1) xs) (sym is))) ∙ so_far

  pub each_more : (y : B) → f x ≡ Ok y → each_onto f (done ++ y ∷ []) (drop (i + 1) xs) ≡ whole
  each_more y gives = sym (ap (λ (o : Outcome B). after o (λ z. each_onto f (done ++ z ∷ []) (drop (i + 1) xs))) gives) ∙ each_here

  pub each_fault : (stop : Stop) → FindsFault stop (f x) → FindsFault stop whole
  each_fault (Number number) gives = sym each_here ∙ ap (λ (o : Outcome B). after o (λ z. each_onto f (done ++ z ∷ []) (drop (i + 1) xs))) gives
  each_fault Memory gives = tt

-- ---- what comes first

pub fault_first : {A B : Type 0} (stop : Stop) (first : Outcome A) (next : A → Outcome B) → FindsFault stop first → FindsFault stop (after first next)
fault_first (Number number) first next is = ap (λ o. after o next) is
fault_first Memory first next is = tt
