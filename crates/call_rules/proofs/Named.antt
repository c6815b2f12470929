-- The places of parameters in a map by name, made from the last parameter on.
use Rattle.std.proofs.Common.{◌≡◌, ℕ, ◌+◌, ◌<◌, ◌≤◌, Bool, cond, List, ◌∷◌, length, get_or, drop, Option, Some, None, ap, sym, ◌∙◌, arith}
use Rattle.std.specs.List.{position_from}
use Rattle.std.specs.Ordering.{nat_cmp, is_eq}
use Rattle.std.specs.Cmp.Lexicographic.{slice_cmp, texts_ties}
use Rattle.std.specs.BTreeMap.{BTreeMap, get}
use Rattle.std.proofs.lemmas.Iterator.Adapters.{position_from-zero}
use Rattle.std.proofs.lemmas.List.{drop_all, drop_more}
use Rattle.value_types.specs.Units.{same_units}
use Rattle.tsql_tree.specs.declared.definition.Parameter.{Parameter}
use Rattle.call_rules.specs.Found.{ArePlaces}

abbrev pub has_name : List ℕ → Parameter → Bool
has_name name parameter = same_units parameter.name name

-- the map has the places of the parameters from one on
abbrev pub ArePlacesFrom : BTreeMap (List ℕ) ℕ → ℕ → List Parameter → Type 0
ArePlacesFrom places place parameters = (name : List ℕ) → get (slice_cmp nat_cmp) places name ≡ position_from (has_name name) place (drop place parameters)

pub none_yet : (places : BTreeMap (List ℕ) ℕ) (parameters : List Parameter) (place : ℕ) → length parameters ≤ place → ((name : List ℕ) → get (slice_cmp nat_cmp) places name ≡ None) → ArePlacesFrom places place parameters
none_yet places parameters place past none name = none name ∙ ap (position_from (has_name name) place) (sym (drop_all place parameters past))

pub one_more : (old new : BTreeMap (List ℕ) ℕ) (parameters : List Parameter) (before place : ℕ) (parameter : Parameter) (key : List ℕ) → before ≡ place + 1 → place < length parameters
    → parameter ≡ get_or parameters place parameter → key ≡ parameter.name
    → ((name : List ℕ) → get (slice_cmp nat_cmp) new name ≡ cond (is_eq (slice_cmp nat_cmp key name)) (Some place) (get (slice_cmp nat_cmp) old name))
    → ArePlacesFrom old before parameters → ArePlacesFrom new place parameters
one_more old new parameters before place parameter key next within at named updates so_far name =
    let rest = drop (place + 1) parameters in
    updates name
    ∙ ap (λ (k : List ℕ). cond (is_eq (slice_cmp nat_cmp k name)) (Some place) (get (slice_cmp nat_cmp) old name)) named
    ∙ ap (λ (b : Bool). cond b (Some place) (get (slice_cmp nat_cmp) old name)) (sym (texts_ties parameter.name name))
    ∙ ap (λ (o : Option ℕ). cond (same_units parameter.name name) (Some place) o) (so_far name ∙ ap (λ (n : ℕ). position_from (has_name name) n (drop n parameters)) next)
    ∙ ap (λ (p : Parameter). position_from (has_name name) place (p ∷ rest)) at
    ∙ ap (position_from (has_name name) place) (sym (drop_more parameters place parameter within))

pub all_placed : (places : BTreeMap (List ℕ) ℕ) (parameters : List Parameter) (place : ℕ) → place ≤ 0 → ArePlacesFrom places place parameters → ArePlaces places parameters
all_placed places parameters place none so_far name =
    let zero_it : place ≡ 0 = omega (arith, none) in
    so_far name ∙ ap (λ (n : ℕ). position_from (has_name name) n (drop n parameters)) zero_it ∙ sym (position_from-zero (has_name name) parameters)
