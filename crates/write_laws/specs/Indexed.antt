-- Own: what is to be kept of index parts: each part has exactly the index rows of its table's rows, and there is no other part. The
-- database of all own rows is one for itself; of it is said what more a sound database keeps.
use Rattle.std.specs.Prelude.{◌≡◌, ℕ, false, nat_eq, IsSome, List, if◌then◌else◌, None, Some}
use Rattle.value_types.specs.declared.table_name.TableName.{TableName}
use Rattle.value_types.specs.declared.value.Value.{Value}
use Rattle.tsql_tree.specs.declared.definition.TableTree.{TableTree}
use Rattle.step_model.specs.Database.{Database}
use Rattle.index_laws.specs.Parts.{IsExact}
use Rattle.table_rows.specs.Rows.{index_part, part_places, rows_table, values_at}
use Rattle.write_laws.specs.Sound.{IsTableOf, SoundRows}

-- ---- a database with index parts

-- the rows of tables alone, which are in part 0
abbrev pub own_rows : Database → Database
own_rows db table key = if nat_eq table.part 0 then db table key else None

-- Each index part of a table that is defined has exactly the index rows of the table's rows; and what stands in a part stands in one of
-- such a table.
pub record Indexed (db : Database) : Type 0 where
  pub exact : (shape : TableTree) (part : ℕ) (places : List ℕ) → IsTableOf db shape → part_places shape part ≡ Some places → IsExact (values_at places) (db (rows_table shape.name)) (db (index_part shape part))
  pub parts : (table : TableName) (key row : List Value) → db table key ≡ Some row → nat_eq table.part 0 ≡ false → (shape : TableTree) × IsTableOf db shape × (table.object ≡ shape.name) × IsSome (part_places shape table.part)

-- What of a database is to be kept: its tables' own rows keep what is to be kept of them, and its index parts follow those rows.
pub record Sound (db : Database) : Type 0 where
  pub rows : SoundRows (own_rows db)
  pub indexed : Indexed db
