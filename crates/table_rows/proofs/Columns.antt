-- The places of columns in a table: each that is found is that of a column. So the index row of a row with its table's columns has those
-- of its part, and as many values as the part has places.
use Rattle.std.proofs.Common.{◌≡◌, refl, sym, ap, ◌∙◌, subst, ℕ, zero, suc, ◌<◌, true, false, Bool, ◌&&◌, nat_le, if◌then◌else◌, List, [], ◌∷◌, ◌++◌, length, filter_map, get_or, position, slice_get, Option, Some, None, IsTrue, arith}
use Rattle.std.specs.Cmp.Lexicographic.{as_long}
use Rattle.std.specs.List.{AllByRecursion, cons_option}
use Rattle.std.specs.Option.{option_map}
use Rattle.std.proofs.lemmas.Bool.{and_parts}
use Rattle.std.proofs.lemmas.List.Quantifiers.{position-Some}
use Rattle.std.proofs.lemmas.Option.{slice_get-get_or}
use Rattle.value_types.specs.Units.{same_units}
use Rattle.value_types.specs.declared.sql_type.SqlType.TheVariants.{Bit as BitType}
use Rattle.value_types.specs.declared.value.Value.{Value}
use Rattle.tsql_tree.specs.declared.definition.ColumnTree.{ColumnTree}
use Rattle.tsql_tree.specs.declared.definition.KeyTree.{KeyTree}
use Rattle.tsql_tree.specs.declared.definition.TableTree.{TableTree}
use Rattle.tsql_tree.specs.Places as keys
use Rattle.tsql_tree.specs.Places.{key_places, max_place, nameable, place_in}
use Rattle.bound_tree.specs.Setting.{value_at}
use Rattle.table_rows.specs.Rows.{has_columns, index_columns, index_fits, index_places, is_value_of, own_fits, part_places, places_of, row_fits, same_key, values_at}
use Rattle.table_rows.proofs.IndexRows.{not_first}

-- ---- places

-- each is that of a column
abbrev pub AreOf : List ColumnTree → List ℕ → Type 0
AreOf columns places = AllByRecursion (λ place. place < length columns) places

abbrev no_column : ColumnTree
no_column = record { name = []; kind = BitType; required = false }

place_of_column : (columns : List ColumnTree) (name : List ℕ) (place : ℕ) → place_in columns name ≡ Some place → place < length columns
place_of_column columns name place is = by_position (position (λ (column : ColumnTree). same_units name column.name) columns) refl is
  where
    by_limit : (found : ℕ) (b : Bool) → position (λ (column : ColumnTree). same_units name column.name) columns ≡ Some found → (if b then Some found else None) ≡ Some place → place < length columns
    by_limit found true at is = let same : found ≡ place = cc in subst (λ (n : ℕ). n < length columns) same (position-Some (λ (column : ColumnTree). same_units name column.name) columns found no_column at).0
    by_limit found false at is = absurd (let no : None ≡ Some place = is in cc)

    by_position : (o : Option ℕ) → position (λ (column : ColumnTree). same_units name column.name) columns ≡ o → nameable o ≡ Some place → place < length columns
    by_position None at is = absurd (let no : None ≡ Some place = is in cc)
    by_position (Some found) at is = by_limit found (nat_le found max_place) at is

places_found : (columns : List ColumnTree) (names : List (List ℕ)) → AreOf columns (filter_map (place_in columns) names)
places_found columns [] = tt
places_found columns (name ∷ names) = by_place (place_in columns name) refl (places_found columns names)
  where
    by_place : (o : Option ℕ) → place_in columns name ≡ o → AreOf columns (filter_map (place_in columns) names) → AreOf columns (cons_option o (filter_map (place_in columns) names))
    by_place None is rest = rest
    by_place (Some place) is rest = (place_of_column columns name place is, rest)

key_found : (columns : List ColumnTree) (key : List KeyTree) → AreOf columns (keys.places_of columns key)
key_found columns [] = tt
key_found columns (one ∷ rest) = places_found columns one.columns

all_both : (columns : List ColumnTree) (first second : List ℕ) → AreOf columns first → AreOf columns second → AreOf columns (first ++ second)
all_both columns [] second one other = other
all_both columns (place ∷ first) second one other = (one.0, all_both columns first second one.1 other)

-- so are those of a part
pub part_found : (shape : TableTree) (part : ℕ) (places : List ℕ) → part_places shape part ≡ Some places → AreOf shape.columns places
part_found shape zero places is = absurd (let no : None ≡ Some places = is in cc)
part_found shape (suc i) places is = by_names (slice_get (index_columns shape) i) is
  where
    by_names : (o : Option (List (List ℕ))) → option_map (index_places shape) o ≡ Some places → AreOf shape.columns places
    by_names None is = absurd (let no : None ≡ Some places = is in cc)
    by_names (Some names) is =
        let same : index_places shape names ≡ places = cc in
        subst (AreOf shape.columns) same (all_both shape.columns (places_of shape names) (key_places (Some shape)) (places_found shape.columns names) (key_found shape.columns shape.key))

pub part_above : (shape : TableTree) (part : ℕ) (places : List ℕ) → part_places shape part ≡ Some places → 0 < part
part_above shape zero places is = absurd (let no : None ≡ Some places = is in cc)
part_above shape (suc i) places is = omega arith

-- ---- values

many : (columns : List ColumnTree) (places : List ℕ) → AreOf columns places → length (filter_map (slice_get columns) places) ≡ length places
many columns [] all = refl
many columns (place ∷ places) all =
    ap (λ (o : Option ColumnTree). length (cons_option o (filter_map (slice_get columns) places))) (slice_get-get_or columns place no_column all.0) ∙ ap suc (many columns places all.1)

one_typed : (columns : List ColumnTree) (row : List Value) (place : ℕ) → place < length columns → has_columns columns row ≡ true → is_value_of (get_or columns place no_column).kind (value_at row place) ≡ true
one_typed [] row place below fit = absurd (omega (arith, below))
one_typed (column ∷ columns) [] place below fit = absurd (let no : false ≡ true = fit in cc)
one_typed (column ∷ columns) (value ∷ row) zero below fit = (and_parts (is_value_of column.kind value) (has_columns columns row) fit).0
one_typed (column ∷ columns) (value ∷ row) (suc place) below fit = one_typed columns row place (omega (arith, below)) (and_parts (is_value_of column.kind value) (has_columns columns row) fit).1

typed : (columns : List ColumnTree) (row : List Value) (places : List ℕ) → AreOf columns places → has_columns columns row ≡ true → has_columns (filter_map (slice_get columns) places) (values_at places row) ≡ true
typed columns row [] all fit = refl
typed columns row (place ∷ places) all fit =
    let rest : List ColumnTree = filter_map (slice_get columns) places in
    ap (λ (o : Option ColumnTree). has_columns (cons_option o rest) (value_at row place ∷ values_at places row)) (slice_get-get_or columns place no_column all.0)
    ∙ ap (λ (b : Bool). b && has_columns rest (values_at places row)) (one_typed columns row place all.0 fit)
    ∙ typed columns row places all.1 fit

-- ---- index rows

-- that of a row with its table's columns is one of its part, at each key that it is
pub index_row_fits : (shape : TableTree) (part : ℕ) (places : List ℕ) (key row : List Value) → part_places shape part ≡ Some places → has_columns shape.columns row ≡ true → same_key (values_at places row) key ≡ true
    → IsTrue (row_fits shape part key (values_at places row))
index_row_fits shape part places key row is fit same =
    let index : List Value = values_at places row in
    ap (λ (b : Bool). if b then own_fits shape key index else index_fits shape (part_places shape part) key index) (not_first part (part_above shape part places is))
    ∙ ap (λ (o : Option (List ℕ)). index_fits shape o key index) is
    ∙ ap (λ (b : Bool). b && same_key index key) (typed shape.columns row places (part_found shape part places is) fit)
    ∙ same

-- each has as many values as the part has places
pub index_long : (shape : TableTree) (part : ℕ) (places : List ℕ) (key row : List Value) → part_places shape part ≡ Some places → IsTrue (index_fits shape (Some places) key row) → length row ≡ length places
index_long shape part places key row is fit =
    let columns : List ColumnTree = filter_map (slice_get shape.columns) places in
    sym (as_long (λ (column : ColumnTree) (value : Value). is_value_of column.kind value) columns row (and_parts (has_columns columns row) (same_key row key) fit).0) ∙ many shape.columns places (part_found shape part places is)
