-- The values of an index row, one after another for its columns by their names.
use Rattle.std.specs.Prelude.{ℕ, List, [], ◌∷◌, if◌then◌else◌, filter_map, slice_get, Option, Some, None}
use Rattle.value_types.specs.declared.value.Value.{Value}
use Rattle.tsql_tree.specs.declared.definition.ColumnTree.{ColumnTree}
use Rattle.tsql_tree.specs.Places.{place_in}
use Rattle.table_rows.specs.Rows.{is_value_of}

abbrev pub column_at : List ColumnTree → Option ℕ → Option ColumnTree
column_at columns None = None
column_at columns (Some place) = slice_get columns place

-- the columns of these names, where a tree can name their places
abbrev pub column_named : List ColumnTree → List ℕ → Option ColumnTree
column_named columns name = column_at columns (place_in columns name)

abbrev pub columns_named : List ColumnTree → List (List ℕ) → List ColumnTree
columns_named columns names = filter_map (column_named columns) names

-- what is left of values behind one for each of these columns, NULL or of its type; nothing where one is not
abbrev pub values_behind : List ColumnTree → List Value → Option (List Value)
values_behind [] values = Some values
values_behind (column ∷ columns) [] = None
values_behind (column ∷ columns) (value ∷ values) = if is_value_of column.kind value then values_behind columns values else None
