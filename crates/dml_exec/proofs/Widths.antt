-- How many values the keys of a part of a table have.
use Rattle.std.proofs.Common.{◌≡◌, refl, sym, ap, ◌∙◌, ℕ, ◌+◌, Bool, true, false, nat_eq, if◌then◌else◌, List, [], ◌∷◌, length, filter_map, None, arith}
use Rattle.std.proofs.lemmas.List.{length-append}
use Rattle.tsql_tree.specs.declared.definition.KeyTree.{KeyTree}
use Rattle.tsql_tree.specs.declared.definition.TableTree.{TableTree}
use Rattle.tsql_tree.specs.Places as keys
use Rattle.tsql_tree.specs.Places.{key_places, place_in}
use Rattle.table_rows.specs.Rows.{index_places, places_of}
use Rattle.dml_exec.specs.Reading.{index_width, key_width}

-- of no table there are none
pub no_width : (part : ℕ) → 0 ≡ key_width None part
no_width part = by_test (nat_eq part 0)
  where
    by_test : (b : Bool) → 0 ≡ (if b then length (key_places None) else index_width None part)
    by_test true = refl
    by_test false = refl

-- the columns of a constraint, and those of the key
module _ (shape : TableTree) (names : List (List ℕ)) where
  named : (key : List KeyTree) → shape.key ≡ key → length (places_of shape names) + length (keys.places_of shape.columns key) ≡ length (index_places shape names)
  named key is =
      ap (λ (list : List KeyTree). length (places_of shape names) + length (keys.places_of shape.columns list)) (sym is)
      ∙ sym (length-append (places_of shape names) (keys.places_of shape.columns shape.key))

  pub width_keyless : shape.key ≡ [] → length (filter_map (place_in shape.columns) names) ≡ length (index_places shape names)
  width_keyless is = let sum : length (filter_map (place_in shape.columns) names) + 0 ≡ length (index_places shape names) = named [] is in omega (arith, sum)

  pub width_keyed : (key : KeyTree) (rest : List KeyTree) → shape.key ≡ key ∷ rest → length (filter_map (place_in shape.columns) names) + length (filter_map (place_in shape.columns) key.columns) ≡ length (index_places shape names)
  width_keyed key rest is = named (key ∷ rest) is
