-- Lists: what is true of each, and what is bound one after another.
use Rattle.std.proofs.lemmas.Bool.{and_from}
use Rattle.std.proofs.lemmas.List.{length-append}
use Rattle.std.proofs.Common.{◌≡◌, refl, subst, ◌+◌, List, [], ◌∷◌, ◌++◌, map, length, Bool, true, Ok, Err, arith}
use Rattle.std.specs.List.{list_all}
use Rattle.typed_nodes.specs.Refusals.{Outcome, after}
use Rattle.clause_binder.specs.declared.progress.Progress.{Progress}
use Rattle.clause_binder.specs.Progress.{Binding, Context, each_onto}
use Rattle.query_laws.specs.Laws.{AllOf}

pub all_true : {A : Type 0} (test : A → Bool) (xs : List A) → AllOf (λ x. test x ≡ true) xs → list_all test xs ≡ true
all_true test [] h = refl
all_true test (x ∷ xs) h = and_from _ _ h.0 (all_true test xs h.1)

pub all_mapped : {A B : Type 0} (f : A → B) (P : B → Type 0) → ((x : A) → P (f x)) → (xs : List A) → AllOf P (map f xs)
all_mapped f P h [] = tt
all_mapped f P h (x ∷ xs) = (h x, all_mapped f P h xs)

-- what is true of each, for two things that are
pub all_of_two : {A : Type 0} (P Q R : A → Type 0) (xs : List A) → ((x : A) → P x → Q x → R x) → AllOf P xs → AllOf Q xs → AllOf R xs
all_of_two P Q R [] h p q = tt
all_of_two P Q R (x ∷ xs) h p q = (h x p.0 q.0, all_of_two P Q R xs h p.1 q.1)

pub after_same : {A B : Type 0} (o : Outcome A) (f g : A → Outcome B) → ((x : A) → f x ≡ g x) → after o f ≡ after o g
after_same (Ok x) f g h = h x
after_same (Err refusal) f g h = refl

-- as many are bound as there are parts
pub each_long : {A : Type 0} (parts : List (Binding A)) (before : List A) (at : Context) (done : Progress) (r : List A × Progress) → each_onto before parts at done ≡ Ok r → length r.0 ≡ length before + length parts
each_long [] before at done r e = let same : (before, done) ≡ r = cc in subst (λ (r : List _ × Progress). length r.0 ≡ length before + 0) same (omega arith)
each_long {A = A} (a ∷ rest) before at done r e = of_first (a at done) e (λ x. each_long rest (before ++ x.0 ∷ []) at x.1 r)
  where
    of_first : (o : Outcome (A × Progress)) → after o (λ x. each_onto (before ++ x.0 ∷ []) rest at x.1) ≡ Ok r
        → ((x : A × Progress) → each_onto (before ++ x.0 ∷ []) rest at x.1 ≡ Ok r → length r.0 ≡ length (before ++ x.0 ∷ []) + length rest) → length r.0 ≡ length before + length (a ∷ rest)
    of_first (Ok x) e again = let l : length (before ++ x.0 ∷ []) ≡ length before + 1 = length-append before (x.0 ∷ []) in let all = again x e in omega (arith, l, all)
    of_first (Err refusal) e again = cc
