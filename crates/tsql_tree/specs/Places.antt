-- Transact-SQL reference, "CREATE TABLE": the places of the columns of a key among the columns of its table.
use Rattle.std.specs.Prelude.{ℕ, nat_le, if◌then◌else◌, List, [], ◌∷◌, filter_map, position, Option, Some, None}
use Rattle.value_types.specs.Units.{same_units}
use Rattle.tsql_tree.specs.declared.definition.ColumnTree.{ColumnTree}
use Rattle.tsql_tree.specs.declared.definition.KeyTree.{KeyTree}
use Rattle.tsql_tree.specs.declared.definition.TableTree.{TableTree}

-- the greatest place that a tree can name; all places behind it are one
abbrev pub max_place : ℕ
max_place = 65535

-- a place that a tree can name
abbrev pub nameable : Option ℕ → Option ℕ
nameable None = None
nameable (Some place) = if nat_le place max_place then Some place else None

-- the place of the first column of that name
abbrev pub place_in : List ColumnTree → List ℕ → Option ℕ
place_in columns name = nameable (position (λ column. same_units name column.name) columns)

abbrev pub places_of : List ColumnTree → List KeyTree → List ℕ
places_of columns [] = []
places_of columns (key ∷ rest) = filter_map (place_in columns) key.columns

-- the places of a table's key: a table has one
abbrev pub key_places : Option TableTree → List ℕ
key_places None = []
key_places (Some table) = places_of table.columns table.key
