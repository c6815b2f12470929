-- The values of an index row: those of the constraint's columns, and then those of the key's.
use Rattle.std.proofs.Common.{◌≡◌, refl, sym, ap, ◌∙◌, ℕ, ◌<◌, Bool, true, false, ◌&&◌, ◌==◌, nat_eq, List, [], ◌∷◌, ◌++◌, length, filter_map, if◌then◌else◌, slice_get, Option, Some, None, arith}
use Rattle.std.proofs.lemmas.Bool.{eqb-true}
use Rattle.std.proofs.lemmas.List.Elements.{filter_map-append}
use Rattle.std.specs.List.{cons_option}
use Rattle.value_types.specs.declared.value.Value.{Value}
use Rattle.tsql_tree.specs.declared.definition.ColumnTree.{ColumnTree}
use Rattle.tsql_tree.specs.declared.definition.KeyTree.{KeyTree}
use Rattle.tsql_tree.specs.declared.definition.TableTree.{TableTree}
use Rattle.tsql_tree.specs.Places as keys
use Rattle.tsql_tree.specs.Places.{key_places, place_in}
use Rattle.table_rows.specs.IndexColumns.{column_at, columns_named, values_behind}
use Rattle.table_rows.specs.Rows.{has_columns, index_places, is_value_of, places_of}

-- a number above 0 is not 0
pub not_first : (n : ℕ) → 0 < n → nat_eq n 0 ≡ false
not_first n above = by_test (nat_eq n 0) refl
  where
    by_test : (b : Bool) → nat_eq n 0 ≡ b → b ≡ false
    by_test true is = let none : n ≡ 0 = eqb-true n 0 is in absurd (omega (arith, none, above))
    by_test false is = refl

-- ---- columns by their places, and by their names

columns_at : (columns : List ColumnTree) (names : List (List ℕ)) → filter_map (slice_get columns) (filter_map (place_in columns) names) ≡ columns_named columns names
columns_at columns [] = refl
columns_at columns (name ∷ names) = by_place (place_in columns name) (columns_at columns names)
  where
    by_place : (place : Option ℕ) → filter_map (slice_get columns) (filter_map (place_in columns) names) ≡ columns_named columns names
        → filter_map (slice_get columns) (cons_option place (filter_map (place_in columns) names)) ≡ cons_option (column_at columns place) (columns_named columns names)
    by_place None rest = rest
    by_place (Some place) rest = ap (cons_option (slice_get columns place)) rest

-- ---- values one behind another

-- what decides behind the values of some columns
abbrev decides : List ColumnTree → Option (List Value) → Bool
decides columns None = false
decides columns (Some rest) = has_columns columns rest

both : (first second : List ColumnTree) (values : List Value) → has_columns (first ++ second) values ≡ decides second (values_behind first values)
both [] second values = refl
both (column ∷ first) second [] = refl
both (column ∷ first) second (value ∷ values) = by_test (is_value_of column.kind value) (both first second values)
  where
    by_test : (b : Bool) → has_columns (first ++ second) values ≡ decides second (values_behind first values) → (b && has_columns (first ++ second) values) ≡ decides second (if b then values_behind first values else None)
    by_test true rest = rest
    by_test false rest = refl

-- none is left where they are the values of these columns alone
ends : (columns : List ColumnTree) (values : List Value) → decides [] (values_behind columns values) ≡ has_columns columns values
ends [] values = refl
ends (column ∷ columns) [] = refl
ends (column ∷ columns) (value ∷ values) = by_test (is_value_of column.kind value) (ends columns values)
  where
    by_test : (b : Bool) → decides [] (values_behind columns values) ≡ has_columns columns values → decides [] (if b then values_behind columns values else None) ≡ (b && has_columns columns values)
    by_test true rest = rest
    by_test false rest = refl

none_left : (rest : List Value) → (length rest == 0) ≡ has_columns [] rest
none_left [] = refl
none_left (value ∷ rest) = not_first (length (value ∷ rest)) (omega arith)

pub named_some : (columns : List ColumnTree) (values rest : List Value) → values_behind columns values ≡ Some rest → (length rest == 0) ≡ has_columns columns values
named_some columns values rest is = none_left rest ∙ sym (ap (decides []) is) ∙ ends columns values

pub named_none : (columns : List ColumnTree) (values : List Value) → values_behind columns values ≡ None → false ≡ has_columns columns values
named_none columns values is = sym (ap (decides []) is) ∙ ends columns values

module _ (shape : TableTree) (names : List (List ℕ)) (values : List Value) where
  abbrev own : List ColumnTree
  own = columns_named shape.columns names

  abbrev others : List ColumnTree
  others = filter_map (slice_get shape.columns) (key_places (Some shape))

  parts : decides others (values_behind own values) ≡ has_columns (filter_map (slice_get shape.columns) (index_places shape names)) values
  parts =
      sym (both own others values)
      ∙ ap (λ (list : List ColumnTree). has_columns (list ++ others) values) (sym (columns_at shape.columns names))
      ∙ ap (λ (list : List ColumnTree). has_columns list values) (sym (filter_map-append (slice_get shape.columns) (places_of shape names) (key_places (Some shape))))

  pub index_some : (rest : List Value) → values_behind own values ≡ Some rest → has_columns others rest ≡ has_columns (filter_map (slice_get shape.columns) (index_places shape names)) values
  index_some rest is = sym (ap (decides others) is) ∙ parts

  pub index_none : values_behind own values ≡ None → false ≡ has_columns (filter_map (slice_get shape.columns) (index_places shape names)) values
  index_none is = sym (ap (decides others) is) ∙ parts

-- the columns of a key
pub keyless : (shape : TableTree) (values : List Value) → shape.key ≡ [] → (length values == 0) ≡ has_columns (filter_map (slice_get shape.columns) (key_places (Some shape))) values
keyless shape values is = by_key shape.key is
  where
    by_key : (key : List KeyTree) → key ≡ [] → (length values == 0) ≡ has_columns (filter_map (slice_get shape.columns) (keys.places_of shape.columns key)) values
    by_key [] is = none_left values
    by_key (one ∷ rest) is = absurd (let no : one ∷ rest ≡ [] = is in cc)

pub keyed : (shape : TableTree) (key : KeyTree) (rest : List KeyTree) (values : List Value) → shape.key ≡ key ∷ rest
    → has_columns (columns_named shape.columns key.columns) values ≡ has_columns (filter_map (slice_get shape.columns) (key_places (Some shape))) values
keyed shape key rest values is =
    ap (λ (list : List ColumnTree). has_columns list values) (sym (columns_at shape.columns key.columns))
    ∙ sym (ap (λ (list : List KeyTree). has_columns (filter_map (slice_get shape.columns) (keys.places_of shape.columns list)) values) is)
