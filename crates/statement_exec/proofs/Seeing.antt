-- The shape of the table that was written, among the shapes of a statement.
use Rattle.std.proofs.Common.{arith, ◌≡◌, ℕ, suc, ◌+◌, ◌<◌, Bool, true, false, cond, not, if◌then◌else◌, List, [], ◌∷◌, length, nat_lt, Some, None, refl, sym, subst}
use Rattle.std.proofs.lemmas.Bool.{ltb-true}
use Rattle.std.specs.List.{position_or_len}
use Rattle.std.specs.Prelude.{position, slice_get}
use Rattle.value_types.specs.declared.table_name.TableName.{TableName}
use Rattle.tsql_tree.specs.declared.definition.TableTree.{TableTree}
use Rattle.table_rows.specs.Rows.{is_shape_of, shape_of}

module _ (table : TableName) where
  -- the first of them that is its
  shape_at : (shapes : List TableTree) (shape : TableTree) → slice_get shapes (position_or_len (is_shape_of table) shapes) ≡ Some shape → shape_of table shapes ≡ Some shape
  shape_at [] shape is = absurd cc
  shape_at (first ∷ rest) shape is = by_test (is_shape_of table first) is (shape_at rest shape)
    where
      by_test : (test : Bool) → slice_get (first ∷ rest) (cond (not test) (1 + position_or_len (is_shape_of table) rest) 0) ≡ Some shape
          → (slice_get rest (position_or_len (is_shape_of table) rest) ≡ Some shape → shape_of table rest ≡ Some shape) → (if test then Some first else shape_of table rest) ≡ Some shape
      by_test true at later = at
      by_test false at later = later (let more : 1 + position_or_len (is_shape_of table) rest ≡ suc (position_or_len (is_shape_of table) rest) = omega arith in subst (λ (i : ℕ). slice_get (first ∷ rest) i ≡ Some shape) more at)

  place_found : (shapes : List TableTree) (place : ℕ) → Some place ≡ position (is_shape_of table) shapes → (position_or_len (is_shape_of table) shapes ≡ place) × (nat_lt (position_or_len (is_shape_of table) shapes) (length shapes) ≡ true)
  place_found shapes place found = by_test (nat_lt (position_or_len (is_shape_of table) shapes) (length shapes)) refl found
    where
      by_test : (within : Bool) → nat_lt (position_or_len (is_shape_of table) shapes) (length shapes) ≡ within → Some place ≡ cond within (Some (position_or_len (is_shape_of table) shapes)) None
          → (position_or_len (is_shape_of table) shapes ≡ place) × (nat_lt (position_or_len (is_shape_of table) shapes) (length shapes) ≡ true)
      by_test true within is = (let same : place ≡ position_or_len (is_shape_of table) shapes = cc in sym same, within)
      by_test false within is = absurd cc

  pub shape_first : (shapes : List TableTree) (place : ℕ) (shape : TableTree) → Some place ≡ position (is_shape_of table) shapes → slice_get shapes place ≡ Some shape → shape_of table shapes ≡ Some shape
  shape_first shapes place shape found at = shape_at shapes shape (subst (λ (i : ℕ). slice_get shapes i ≡ Some shape) (sym (place_found shapes place found).0) at)

  -- its place is one of theirs
  pub shape_within : (shapes : List TableTree) (place : ℕ) → Some place ≡ position (is_shape_of table) shapes → place < length shapes
  shape_within shapes place found =
      let parts = place_found shapes place found in
      subst (λ (i : ℕ). i < length shapes) parts.0 (ltb-true (position_or_len (is_shape_of table) shapes) (length shapes) parts.1)
