-- Own: the laws of plans, said of own rows of tables. What a plan reads of its session, variables and session values, is arbitrary. What a write plans keeps a database firm, if what its checks say behind its changes
-- passes; so does what DROP TABLE plans, of all rows of the table; and a table whose CREATE TABLE is bound can stand. What is asked of the tables, of the images and of the
-- plan is what a statement that succeeded has read in that database.
use Rattle.std.specs.Prelude.{◌≡◌, ℕ, List, [], ◌∷◌, Some, Ok}
use Rattle.std.specs.List.{AllByRecursion}
use Rattle.tsql_tree.specs.declared.definition.TableTree.{TableTree}
use Rattle.tsql_tree.specs.declared.definition.Definition.{Definition}
use Rattle.tsql_tree.specs.declared.statement.Form.{Form-F}
use Rattle.tsql_tree.specs.declared.statement.Statement.{Statement}
use Rattle.bound_tree.specs.declared.write.Bound.{Bound}
use Rattle.bound_tree.specs.declared.write.BoundWrite.{BoundWrite}
use Rattle.binder.specs.Names.{form_of}
use Rattle.session_vars.specs.declared.Variable.{Variable}
use Rattle.step_model.specs.declared.change.Planned.{Planned}
use Rattle.step_model.specs.Database.{Database}
use Rattle.step_model.specs.Own.{own_changes}
use Rattle.table_rows.specs.Definitions.{defined_name, tables_of}
use Rattle.table_rows.specs.Rows.{shape_of}
use Rattle.constraint_check.specs.Laws.{KeysAreOne, Passes, behind}
use Rattle.constraint_check.specs.Meant.{reads_meant}
use Rattle.constraint_check.specs.Reads.{all_rows}
use Rattle.dml_exec.specs.Filling.{Row}
use Rattle.dml_exec.specs.Planning.{table_written}
use Rattle.dml_exec.specs.Reading.{fits}
use Rattle.write_laws.specs.Once.{KeyFits}
use Rattle.write_laws.specs.Reads.{HaveParents, IsRead, RowsFit}
use Rattle.write_laws.specs.Planning.{AreOneEach, HaveColumns, rows_before}
use Rattle.batch_meaning.specs.Raised.{Around}
use Rattle.batch_meaning.specs.Progress.{SessionProgress}
use Rattle.batch_meaning.specs.Changing.{dropped, planned_over, unless_referred}
use Rattle.batch_meaning.specs.Selecting.{bound_over}
use Rattle.write_laws.specs.Indexed.{Indexed, own_rows}
use Rattle.write_laws.specs.Sound.{IsDefined, IsTableOf, Firm}
use Rattle.write_laws.specs.Keeping.{AreDefinitions, AreTables, CanStand, HasNoTrigger}

-- ---- a write

-- The changes are planned, with the values of a session as it stands, on images whose rows have the columns of the table that is written, which is
-- defined. Other tables that are named may be those of a trigger, which are not.
pub record IsPlanned (around : Around) (p : SessionProgress) (db : Database) (named : List TableTree) (of : BoundWrite) (images : List (List Row)) (planned : List Planned) : Type 0 where
  pub defined : (shape : TableTree) → shape_of (table_written of) named ≡ Some shape → IsTableOf db shape
  pub read : (shape : TableTree) → shape_of (table_written of) named ≡ Some shape → HaveColumns shape (rows_before of images)
  pub plans : planned_over around p named of images ≡ Ok planned

-- behind them rows can be read for checks: they fit their tables, as do the keys of the changes; the tables are those that were defined, each of
-- another name; and parents are there
pub record AreReadable (db : Database) (shapes : List TableTree) (planned : List Planned) : Type 0 where
  pub keys : AllByRecursion (KeyFits shapes) planned
  pub parents : HaveParents shapes
  pub rows : AllByRecursion (RowsFit (behind db planned)) shapes
  pub each : AreOneEach shapes
  pub defined : AllByRecursion (IsTableOf (behind db planned)) shapes

abbrev pub PlannedReadable : Type 0
PlannedReadable = (around : Around) (p : SessionProgress) (db : Database) (shapes named : List TableTree) (of : BoundWrite) (images : List (List Row)) (planned : List Planned) → Firm db → AreTables db shapes
    → IsPlanned around p db named of images planned → AreReadable db shapes (own_changes planned)

-- and if all of that passes the database is firm
abbrev pub FirmPlanned : Type 0
FirmPlanned = (around : Around) (p : SessionProgress) (db : Database) (shapes named : List TableTree) (of : BoundWrite) (images : List (List Row)) (planned : List Planned) → Firm db → AreTables db shapes
    → IsPlanned around p db named of images planned → AllByRecursion (Passes (behind db (own_changes planned))) (reads_meant (own_changes planned) shapes) → Firm (behind db (own_changes planned))

-- ---- DROP TABLE

-- All rows of a table were read, to which no other refers; the changes are planned on them, and on all definitions.
pub record IsDropPlanned (around : Around) (p : SessionProgress) (db : Database) (definitions : List Definition) (shape : TableTree) (rows : List Row) (planned : List Planned) : Type 0 where
  pub defined : IsTableOf db shape
  pub read : IsRead db (fits (Some shape) 0) (all_rows shape.name) rows
  pub unreferred : unless_referred shape.name (tables_of definitions) ≡ Ok tt
  pub plans : dropped around p definitions shape shape.name (rows ∷ []) ≡ Ok planned

-- behind them the database is firm
abbrev pub FirmDropPlanned : Type 0
FirmDropPlanned = (around : Around) (p : SessionProgress) (db : Database) (definitions : List Definition) (shape : TableTree) (rows : List Row) (planned : List Planned) → Firm db → AreDefinitions db definitions
    → IsDropPlanned around p db definitions shape rows planned → Firm (behind db (own_changes planned))

-- and what is left has its index parts
abbrev pub IndexedDropPlanned : Type 0
IndexedDropPlanned = (around : Around) (p : SessionProgress) (db : Database) (definitions : List Definition) (shape : TableTree) (rows : List Row) (planned : List Planned) → KeysAreOne db → Firm (own_rows db) → Indexed db
    → AreDefinitions (own_rows db) definitions → IsDropPlanned around p (own_rows db) definitions shape rows planned → Indexed (behind db planned)

-- where no trigger is, none comes
abbrev pub UntriggeredPlanned : Type 0
UntriggeredPlanned = (around : Around) (p : SessionProgress) (db : Database) (named : List TableTree) (of : BoundWrite) (images : List (List Row)) (planned : List Planned) → Firm db → HasNoTrigger db
    → IsPlanned around p db named of images planned → HasNoTrigger (behind db (own_changes planned))

-- ---- CREATE TABLE

-- where the statement is bound over definitions that are those of the database, its table can stand there
abbrev pub BoundStands : Type 0
BoundStands = (db : Database) (definitions : List Definition) (vars : List Variable) (statement : Statement) (table : TableTree) (text : List ℕ) (of : Bound) → Firm db
    → AllByRecursion (λ definition. IsDefined db (defined_name definition) definition) definitions
    → form_of statement ≡ Form-F.CreateTable table text → bound_over definitions vars statement ≡ Ok of → CanStand db table
