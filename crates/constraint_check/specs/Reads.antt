-- Transact-SQL reference, "CREATE TABLE": UNIQUE and FOREIGN KEY, which say something of rows beside a row. Own: what is read
-- behind the changes of a statement to check them: UNIQUE of each row that is written, in the constraint's index part; the
-- parent of each such row; the rows that refer to each row that is gone, in the index parts of their FOREIGN KEYs. A
-- FOREIGN KEY with a NULL has no parent, and a key that the statement inserts again is not gone.
use Rattle.std.specs.Prelude.{ℕ, zero, suc, Bool, true, false, not, ◌&&◌, nat_le, if◌then◌else◌, List, [], ◌∷◌, ◌++◌, length, Option, Some, None}
use Rattle.std.specs.List.{flat_map, list_any}
use Rattle.value_types.specs.Units.{same_units}
use Rattle.value_types.specs.declared.table_name.TableName.{TableName}
use Rattle.value_types.specs.declared.value.Value.{Value}
use Rattle.value_types.specs.Order.{key_limit}
use Rattle.tsql_tree.specs.declared.definition.ForeignTree.{ForeignTree}
use Rattle.tsql_tree.specs.declared.definition.KeyTree.{KeyTree}
use Rattle.tsql_tree.specs.declared.definition.TableTree.{TableTree}
use Rattle.tsql_tree.specs.Places.{key_places}
use Rattle.bound_tree.specs.Meaning.{is_null}
use Rattle.step_model.specs.declared.change.Deed.{Deed}
use Rattle.step_model.specs.declared.change.Deed.TheVariants.{Erase, Replace, Insert}
use Rattle.step_model.specs.declared.change.Planned.{Planned}
use Rattle.step_model.specs.declared.range.KeyRange.{KeyRange}
use Rattle.step_model.specs.declared.range.Start.TheVariants.{First, At}
use Rattle.step_model.specs.declared.range.Stop.TheVariants.{Last, Within}
use Rattle.step_model.specs.Database.{is_at}
use Rattle.step_model.specs.Own.{change_of, is_insert, is_own, row_of}
use Rattle.table_rows.specs.Rows.{index_part, places_of, rows_table, shape_of, values_at}
use Rattle.constraint_check.specs.declared.check_read.Check.TheVariants.{Unique, Child, Parent}
use Rattle.constraint_check.specs.declared.check_read.CheckRead.{CheckRead}

-- ---- what is read

-- all rows of a table
abbrev pub all_rows : List ℕ → KeyRange
all_rows name = record { table = rows_table name; start = First; stop = Last }

-- a key has one value at least, and so many at most
abbrev pub is_key : List Value → Bool
is_key values = nat_le 1 (length values) && nat_le (length values) key_limit

-- the row at a whole key; for what can be no key, all rows
abbrev pub row_at : List ℕ → List Value → KeyRange
row_at name key = if is_key key then (record { table = rows_table name; start = At key; stop = Within key }) else all_rows name

-- the rows of an index part that begin with these values; for what can be no key, all of them
abbrev pub index_rows : TableTree → ℕ → List Value → KeyRange
index_rows shape part values =
    if is_key values then (record { table = index_part shape part; start = At values; stop = Within values }) else (record { table = index_part shape part; start = First; stop = Last })

-- so many places, from the first on: those of a constraint's columns in its index rows
abbrev pub first_places : ℕ → List ℕ
first_places zero = []
first_places (suc count) = first_places count ++ count ∷ []

-- ---- UNIQUE, of a row that is written

abbrev pub unique_read : TableTree → List Value → ℕ → KeyTree → CheckRead
unique_read shape row part key = let places = places_of shape key.columns in
    record { check = Unique; range = index_rows shape part (values_at places row); columns = first_places (length places); wanted = values_at places row; name = key.name }

-- of UNIQUEs whose parts follow one another, from this one on
abbrev pub unique_reads_from : TableTree → List Value → ℕ → List KeyTree → List CheckRead
unique_reads_from shape row part [] = []
unique_reads_from shape row part (key ∷ keys) = unique_read shape row part key ∷ unique_reads_from shape row (suc part) keys

-- their parts begin with 1
abbrev pub unique_reads : TableTree → List Value → List CheckRead
unique_reads shape row = unique_reads_from shape row 1 shape.uniques

-- ---- FOREIGN KEY, of a row that is written: its parent is the row at the key that the row's values are

abbrev pub child_read : List TableTree → ForeignTree → List Value → CheckRead
child_read shapes foreign values = record {
  check = Child;
  range = row_at foreign.parent values;
  columns = key_places (shape_of (rows_table foreign.parent) shapes);
  wanted = values;
  name = foreign.name;
}

-- of values without a NULL
abbrev pub child_where : List TableTree → ForeignTree → List Value → List CheckRead
child_where shapes foreign values = if list_any is_null values then [] else child_read shapes foreign values ∷ []

abbrev pub child_reads : List TableTree → TableTree → List Value → List CheckRead
child_reads shapes shape row = flat_map (λ foreign. child_where shapes foreign (values_at (places_of shape foreign.columns) row)) shape.foreigns

-- ---- FOREIGN KEYs that refer to a row that is gone: of each table, in the order in which the tables are given

abbrev pub parent_read : List Value → TableTree → ℕ → ForeignTree → CheckRead
parent_read key child part foreign = record {
  check = Parent;
  range = index_rows child part key;
  columns = first_places (length (places_of child foreign.columns));
  wanted = key;
  name = foreign.name;
}

-- of those FOREIGN KEYs that refer to the table, where their parts follow one another, from this one on
abbrev pub parent_reads_from : TableName → List Value → TableTree → ℕ → List ForeignTree → List CheckRead
parent_reads_from table key child part [] = []
parent_reads_from table key child part (foreign ∷ foreigns) =
    if same_units foreign.parent table.object then parent_read key child part foreign ∷ parent_reads_from table key child (suc part) foreigns else parent_reads_from table key child (suc part) foreigns

-- their parts begin behind those of the UNIQUEs
abbrev pub first_foreign : TableTree → ℕ
first_foreign shape = suc (length shape.uniques)

abbrev pub parent_reads_of : TableName → List Value → TableTree → List CheckRead
parent_reads_of table key child = parent_reads_from table key child (first_foreign child) child.foreigns

abbrev pub parent_reads : List TableTree → TableName → List Value → List CheckRead
parent_reads shapes table key = flat_map (parent_reads_of table key) shapes

-- ---- of the changes of a statement

-- what a row of a table asks, where there are both
abbrev pub of_both : (TableTree → List Value → List CheckRead) → Option TableTree → Option (List Value) → List CheckRead
of_both reads None row = []
of_both reads (Some shape) None = []
of_both reads (Some shape) (Some row) = reads shape row

-- what the row that a change writes asks, by its table's shape
abbrev pub of_row : (TableTree → List Value → List CheckRead) → List TableTree → Planned → List CheckRead
of_row reads shapes change = of_both reads (shape_of change.table shapes) (row_of change.deed)

abbrev pub is_erase : Deed → Bool
is_erase Erase = true
is_erase (Replace row) = false
is_erase (Insert row) = false

-- a change of the list inserts at this one's key
abbrev pub is_again : List Planned → Planned → Bool
is_again changes change = list_any (λ other. is_insert other.deed && is_at (change_of other) change.table change.key) changes

-- the tables' own rows that are gone: erased, and not inserted again
abbrev pub is_gone : List Planned → Planned → Bool
is_gone changes change = is_own change && (is_erase change.deed && not (is_again changes change))

abbrev pub of_key : List TableTree → List Planned → Planned → List CheckRead
of_key shapes changes change = if is_gone changes change then parent_reads shapes change.table change.key else []

-- first UNIQUE, then parents of rows, then rows of parents, each in the order of the changes
abbrev pub reads_for : List Planned → List TableTree → List CheckRead
reads_for changes shapes =
    flat_map (of_row unique_reads shapes) changes
    ++ (flat_map (of_row (child_reads shapes) shapes) changes
    ++ flat_map (of_key shapes changes) changes)
