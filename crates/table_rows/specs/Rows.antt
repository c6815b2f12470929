-- Transact-SQL reference, "CREATE TABLE": which rows are rows of a table. A row has a value for each column, NULL or of
-- the column's type, and stands at its own key: the values of the PRIMARY KEY's columns, in the key's order. What else
-- stands among a table's rows is read as no row. NOT NULL is no part of this: it is a constraint.
-- Own: which index parts a table has, and of which values of its rows their index rows are made; an index row is the key at which it stands.
use Rattle.std.specs.Prelude.{ℕ, zero, suc, Bool, true, false, ◌&&◌, nat_eq, nat_le, if◌then◌else◌, List, [], ◌∷◌, ◌++◌, length, map, filter_map, slice_get, Option, Some, None}
use Rattle.std.specs.Cmp.Lexicographic.{pointwise}
use Rattle.std.specs.Option.{option_map}
use Rattle.std.specs.Ordering.{eq_by_cmp}
use Rattle.value_types.specs.declared.table_name.TableName.{TableName}
use Rattle.value_types.specs.declared.sql_type.SqlType.{SqlType}
use Rattle.value_types.specs.declared.sql_type.SqlType.TheVariants.{Bit as BitType, NText}
use Rattle.value_types.specs.declared.value.Value.{Value}
use Rattle.value_types.specs.declared.value.Value.TheVariants.{Null, Whole, Bit, Text}
use Rattle.value_types.specs.Units.{same_units}
use Rattle.value_types.specs.Types.{is_in_range}
use Rattle.value_types.specs.Order.{key_cmp}
use Rattle.tsql_tree.specs.declared.definition.ColumnTree.{ColumnTree}
use Rattle.tsql_tree.specs.declared.definition.TableTree.{TableTree}
use Rattle.tsql_tree.specs.Places.{key_places, place_in}
use Rattle.bound_tree.specs.Setting.{value_at}

-- NULL, or a value of the type: `IsOf` of `value_types` as a test
abbrev pub is_value_of : SqlType → Value → Bool
is_value_of kind Null = true
is_value_of kind (Whole number) = is_in_range kind number
is_value_of BitType (Bit bit) = true
is_value_of (NText size) (Text units) = nat_le (length units) size
is_value_of kind value = false

-- a value for each column, NULL or of its type, and no more
abbrev pub has_columns : List ColumnTree → List Value → Bool
has_columns columns row = pointwise (λ column value. is_value_of column.kind value) columns row

-- the places of the columns of these names
abbrev pub places_of : TableTree → List (List ℕ) → List ℕ
places_of shape names = filter_map (place_in shape.columns) names

-- the values at places of a row
abbrev pub values_at : List ℕ → List Value → List Value
values_at places row = map (value_at row) places

-- the row's own key
abbrev pub key_of : TableTree → List Value → List Value
key_of shape row = values_at (key_places (Some shape)) row

-- keys that compare equal are one key
abbrev pub same_key : List Value → List Value → Bool
same_key = eq_by_cmp key_cmp

-- a row of a table has its columns, and stands at its own key
abbrev pub own_fits : TableTree → List Value → List Value → Bool
own_fits shape key row = has_columns shape.columns row && same_key (key_of shape row) key

-- ---- index parts

-- the columns of the constraints that have an index part, in the order of the parts: those of each UNIQUE, and then those of each FOREIGN KEY
unfoldable pub index_columns : TableTree → List (List (List ℕ))
index_columns shape = map (λ unique. unique.columns) shape.uniques ++ map (λ foreign. foreign.columns) shape.foreigns

-- the places of the values of an index row in the table's row: those of the columns, and then those of its own key
abbrev pub index_places : TableTree → List (List ℕ) → List ℕ
index_places shape names = places_of shape names ++ key_places (Some shape)

-- by the number of the part; part 0 is the table's own
abbrev pub part_places : TableTree → ℕ → Option (List ℕ)
part_places shape zero = None
part_places shape (suc i) = option_map (index_places shape) (slice_get (index_columns shape) i)

-- a row of an index part has a value for each of its columns, and is its own key
abbrev pub index_fits : TableTree → Option (List ℕ) → List Value → List Value → Bool
index_fits shape None key row = false
index_fits shape (Some places) key row = has_columns (filter_map (slice_get shape.columns) places) row && same_key row key

-- A row at a key is one of this part of the table.
abbrev pub row_fits : TableTree → ℕ → List Value → List Value → Bool
row_fits shape part key row = if nat_eq part 0 then own_fits shape key row else index_fits shape (part_places shape part) key row

-- ---- tables

-- the table's own rows, which are part 0
abbrev pub rows_table : List ℕ → TableName
rows_table name = record { object = name; part = 0 }

-- its index part of this number
abbrev pub index_part : TableTree → ℕ → TableName
index_part shape part = record { object = shape.name; part = part }

abbrev pub is_shape_of : TableName → TableTree → Bool
is_shape_of table shape = nat_eq table.part 0 && same_units table.object shape.name

-- the first shape of that table
abbrev pub shape_of : TableName → List TableTree → Option TableTree
shape_of table [] = None
shape_of table (shape ∷ rest) = if is_shape_of table shape then Some shape else shape_of table rest

-- that of the table whose part this is
abbrev pub part_shape : TableName → List TableTree → Option TableTree
part_shape table shapes = shape_of (rows_table table.object) shapes
