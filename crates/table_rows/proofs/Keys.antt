-- The values of a key, one after another.
use Rattle.std.proofs.Common.{◌≡◌, refl, ◌∙◌, ℕ, ◌<◌, List, [], ◌∷◌, length, drop, false, arith}
use Rattle.std.proofs.lemmas.List.{length-drop}
use Rattle.std.specs.Ordering.{eq_by_cmp}
use Rattle.value_types.specs.declared.value.Value.{Value}
use Rattle.value_types.specs.Order.{key_cmp}
use Rattle.table_rows.specs.Rows.{values_at}

-- a key that has no value is none of places
no_value : (places : List ℕ) (row rest : List Value) → 0 < length places → length rest < 1 → false ≡ eq_by_cmp key_cmp (values_at places row) rest
no_value [] row rest some none = absurd (omega (arith, some))
no_value (place ∷ places) row [] some none = refl
no_value (place ∷ places) row (value ∷ rest) some none = absurd (omega (arith, none))

-- where places are left and no value is, the values are others
pub values_ended : (places : List ℕ) (done : ℕ) (row rest wanted : List Value) → done < length places → length rest < 1
    → eq_by_cmp key_cmp (values_at (drop done places) row) rest ≡ eq_by_cmp key_cmp (values_at places row) wanted → false ≡ eq_by_cmp key_cmp (values_at places row) wanted
values_ended places done row rest wanted below none whole = no_value (drop done places) row rest (simp length-drop (omega arith)) none ∙ whole
