-- Values by their places, and OR of several.
use Rattle.std.proofs.Common.{Bool, true, false, if◌then◌else◌, ◌++◌, ◌+◌, ◌-◌, reverse, ◌≡◌, refl, sym, subst, ℕ, zero, suc, ◌<◌, List, [], ◌∷◌, length, Ok, arith}
use Rattle.value_types.specs.declared.value.Value.{Value}
use Rattle.session_vars.specs.declared.Variable.{Variable}
use Rattle.session_vars.specs.Variables.{StandsAt}
use Rattle.bound_tree.specs.declared.truth.Truth.{Truth}
use Rattle.bound_tree.specs.declared.truth.Truth.TheVariants.{False, Unknown, True}
use Rattle.bound_tree.specs.Truths.{is_true}
use Rattle.bound_tree.specs.Outcomes.{Outcome}
use Rattle.bound_tree.specs.Comparisons.{any_onto}
use Rattle.std.specs.List.{prefix_len}
use Rattle.std.proofs.lemmas.List.{reverse-append, length-append}
use Rattle.convert_rules.specs.Reading.{is_space}
use Rattle.bound_tree.specs.Texts.{count_units}
use Rattle.bound_tree.specs.Setting.{value_at}
use Rattle.scalar_eval.specs.Scopes.{values_of}

-- the value of the variable that stands at a place is the value at that place
pub value_of_variable : (vars : List Variable) (place : ℕ) (value : Value) → place < length vars
    → ((variable : Variable) → StandsAt place variable vars → value ≡ variable.value) → value ≡ value_at (values_of vars) place
value_of_variable [] place value within is = absurd (omega (arith, within))
value_of_variable (v ∷ vars) zero value within is = is v refl
value_of_variable (v ∷ vars) (suc place) value within is = value_of_variable vars place value (omega (arith, within)) is

-- OR of several behind True is True
any_onto_true : (tests : List (Outcome Truth)) → any_onto True tests ≡ Ok True
any_onto_true [] = refl
any_onto_true (test ∷ rest) = any_onto_true rest

pub any_onto_decided : (so_far : Truth) (tests : List (Outcome Truth)) → is_true so_far ≡ true → any_onto so_far tests ≡ Ok True
any_onto_decided False tests is = cc
any_onto_decided Unknown tests is = cc
any_onto_decided True tests is = any_onto_true tests

-- a space at the end counts nothing, and another unit counts all
pub count_units_behind : (units : List ℕ) (unit : ℕ) → count_units (units ++ unit ∷ []) ≡ (if is_space unit then count_units units else length units + 1)
count_units_behind units unit =
    let Counted : List ℕ → Type 0 = λ turned. length (units ++ unit ∷ []) - prefix_len is_space turned ≡ (if is_space unit then count_units units else length units + 1) in
    subst Counted (sym (reverse-append units (unit ∷ []))) (by_test (is_space unit))
  where
    spaces : ℕ
    spaces = prefix_len is_space (reverse units)

    by_test : (b : Bool) → length (units ++ unit ∷ []) - (if b then 1 + spaces else 0) ≡ (if b then length units - spaces else length units + 1)
    by_test true = omega (arith, length-append units (unit ∷ []))
    by_test false = omega (arith, length-append units (unit ∷ []))
