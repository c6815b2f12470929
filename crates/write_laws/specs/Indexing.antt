-- Own: the laws of index parts where rows of a table change. The changes are those of its rows, and then part by part those of their index
-- rows: what is done at each key. Behind them each part is exact again. Each index row that is to go or to be replaced stands before; and none
-- that is inserted comes to a key where a row is.
use Rattle.std.specs.Prelude.{◌≡◌, Bool, true, false, IsSome, List, ◌++◌, length, Some}
use Rattle.std.specs.List.{AllByRecursion}
use Rattle.value_types.specs.declared.value.Value.{Value}
use Rattle.tsql_tree.specs.declared.definition.TableTree.{TableTree}
use Rattle.step_model.specs.declared.change.Planned.{Planned}
use Rattle.step_model.specs.Database.{Database, With}
use Rattle.index_laws.specs.Deeds.{deeds_by, rows_gone}
use Rattle.index_laws.specs.Laws.{FreshRows, OldsApart, erasures_of, itself, never}
use Rattle.index_laws.specs.Parts.{Among, IsOld, RowChange}
use Rattle.table_rows.specs.Rows.{key_of, rows_table}
use Rattle.constraint_check.specs.Laws.{KeysAreOne, behind}
use Rattle.dml_exec.specs.Filling.{Row}
use Rattle.dml_exec.specs.Planning.{index_deeds}
use Rattle.write_laws.specs.IndexKept.{AreEmptied}
use Rattle.write_laws.specs.Indexed.{Indexed, own_rows}
use Rattle.write_laws.specs.Made.{ComeFree, inserts, inserts_into_part}
use Rattle.write_laws.specs.Reads.{KeysHave}
use Rattle.write_laws.specs.Sound.{Firm, IsTableOf}

-- ---- what is done

abbrev pub row_deeds : TableTree → List RowChange → List Planned
row_deeds shape changes = deeds_by (rows_table shape.name) (key_of shape) itself never changes

abbrev pub all_deeds : TableTree → (List Value → List Value → Bool) → List RowChange → List Planned
all_deeds shape equal changes = row_deeds shape changes ++ index_deeds shape equal changes

-- ---- the laws

-- What is asked of the rows: each that is taken stands there; no two are of one key; and each insertion is fresh behind those in front of it.
pub record CanChange (db : Database) (shape : TableTree) (changes : List RowChange) : Type 0 where
  pub stood : (row : Row) → IsOld row changes → db (rows_table shape.name) (key_of shape row) ≡ Some row
  pub apart : OldsApart (key_of shape) changes
  pub fresh : FreshRows (rows_table shape.name) (key_of shape) (With db (erasures_of (rows_table shape.name) (key_of shape) changes)) changes

-- of the database, and of the test whether two index rows are equal
pub record IsReady (db : Database) (shape : TableTree) (equal : List Value → List Value → Bool) : Type 0 where
  pub one_key : KeysAreOne db
  pub firm : Firm (own_rows db)
  pub indexed : Indexed db
  pub defined : IsTableOf db shape
  pub decides : (a b : List Value) → equal a b ≡ true → a ≡ b

abbrev pub IndexedWritten : Type 0
IndexedWritten = (db : Database) (shape : TableTree) (equal : List Value → List Value → Bool) (changes : List RowChange) → IsReady db shape equal → CanChange db shape changes → Indexed (behind db (all_deeds shape equal changes))

abbrev pub IndexFree : Type 0
IndexFree = (db : Database) (shape : TableTree) (equal : List Value → List Value → Bool) (changes : List RowChange) → IsReady db shape equal → CanChange db shape changes → ComeFree inserts_into_part db (all_deeds shape equal changes)

-- an index row that goes or is replaced stands, and the keys of its part are as long as its own
abbrev pub StandsThere : Database → Planned → Type 0
StandsThere db change = IsSome (db change.table change.key)

abbrev pub IndexStands : Type 0
IndexStands = (db : Database) (shape : TableTree) (equal : List Value → List Value → Bool) (changes : List RowChange) → IsReady db shape equal → CanChange db shape changes
    → AllByRecursion (λ change. (inserts change ≡ false → StandsThere db change) × KeysHave (length change.key) db change.table) (index_deeds shape equal changes)

-- ---- DROP TABLE

-- Where all rows of a table go, with their index rows, nothing is left in any part of it.
abbrev pub GoneEmptied : Type 0
GoneEmptied = (db : Database) (shape : TableTree) (equal : List Value → List Value → Bool) (rows : List Row) → IsReady db shape equal → ((key base : List Value) → db (rows_table shape.name) key ≡ Some base → Among (λ row. row ≡ base) rows)
    → AreEmptied db shape (all_deeds shape equal (rows_gone rows))
