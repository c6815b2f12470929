-- Lists made element by element, and steps one behind another: a fault stands.
use Rattle.std.proofs.Common.{◌≡◌, sym, ap, ◌∙◌, ℕ, ◌+◌, ◌<◌, List, [], ◌∷◌, ◌++◌, length, get_or, drop, Err}
use Rattle.std.proofs.lemmas.List.{drop_more}
use Rattle.bound_tree.specs.Outcomes.{Outcome, after}
use Rattle.query_eval.proofs.Each.{each_onto}
use Rattle.dml_exec.specs.declared.fault.Stop.{Stop}
use Rattle.dml_exec.specs.declared.fault.Stop.TheVariants.{Number, Memory}

-- that a fault is what is found says nothing of what else there would be
abbrev pub FindsFault : {B : Type 0} → Stop → Outcome B → Type 0
FindsFault (Number number) outcome = outcome ≡ Err number
FindsFault Memory outcome = Unit {0}

pub fault_first : {A B : Type 0} (stop : Stop) (first : Outcome A) (next : A → Outcome B) → FindsFault stop first → FindsFault stop (after first next)
fault_first (Number number) first next is = ap (λ o. after o next) is
fault_first Memory first next is = tt

pub fault_same : {B : Type 0} (stop : Stop) (a b : Outcome B) → a ≡ b → FindsFault stop a → FindsFault stop b
fault_same (Number number) a b same is = sym same ∙ is
fault_same Memory a b same is = tt

module _ {A B : Type 0} (f : A → Outcome B) (xs : List A) (whole : Outcome (List B)) (done : List B) (i : ℕ) (x : A)
    (below : i < length xs) (is : x ≡ get_or xs i x) (so_far : each_onto f done (drop i xs) ≡ whole) where
  -- the next one has a fault
  pub each_fault : (stop : Stop) → FindsFault stop (f x) → FindsFault stop whole
  each_fault stop gives =
      fault_same stop (after (f x) (λ y. each_onto f (done ++ y ∷ []) (drop (i + 1) xs))) whole
      (sym (ap (each_onto f done) (drop_more xs i x below ∙ ap (λ z. z ∷ drop (i + 1) xs) (sym is))) ∙ so_far)
      (fault_first stop (f x) (λ y. each_onto f (done ++ y ∷ []) (drop (i + 1) xs)) gives)
