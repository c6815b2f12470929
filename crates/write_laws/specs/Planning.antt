-- Own: the laws of writes. What a write plans of its table's own rows is all erasures and then what is written; it is right by itself,
-- in the words of `Checked` of `constraint_check`. Nothing is asked of what the write was bound to: a value that is given for a place
-- where no column is is not stored, and a column for which none is given is NULL, or as it was. Of the rows that an UPDATE
-- reads it is asked that they have their columns, since it writes them again; so have all that are read as rows of a table.
use Rattle.std.specs.Prelude.{◌≡◌, true, false, IsTrue, IsSome, List, [], ◌++◌, filter_map, get_or, length, Some, None, Ok}
use Rattle.std.specs.List.{AllByRecursion}
use Rattle.std.specs.Option.{ForSome}
use Rattle.value_types.specs.declared.table_name.TableName.{TableName}
use Rattle.value_types.specs.declared.value.Value.{Value}
use Rattle.tsql_tree.specs.declared.definition.TableTree.{TableTree}
use Rattle.bound_tree.specs.declared.expr.BoundTest.{BoundTest}
use Rattle.bound_tree.specs.declared.query.InnerQuery.{InnerQuery}
use Rattle.bound_tree.specs.declared.write.Bound.TheVariants as bound
use Rattle.bound_tree.specs.declared.write.BoundWrite.{BoundWrite}
use Rattle.bound_tree.specs.declared.write.BoundWrite.TheVariants as write
use Rattle.step_model.specs.declared.change.Planned.{Planned}
use Rattle.step_model.specs.declared.manner.Manner.{Manner}
use Rattle.step_model.specs.Database.{Database}
use Rattle.step_model.specs.Dialog.{Held}
use Rattle.step_model.specs.Exchange.{Exchange}
use Rattle.step_model.specs.Own.{own_changes, row_of}
use Rattle.table_rows.specs.Rows.{has_columns, row_fits, rows_table, shape_of}
use Rattle.constraint_check.specs.Local.{first_local}
use Rattle.constraint_check.specs.Meant.{reads_meant}
use Rattle.constraint_check.specs.Reads.{is_erase}
use Rattle.constraint_check.specs.Integrity.{AreKept, Stands}
use Rattle.constraint_check.specs.Laws.{KeysAreOne, Passes, behind}
use Rattle.dml_exec.specs.declared.refusal.Level.{Level}
use Rattle.dml_exec.specs.Filling.{Row}
use Rattle.dml_exec.specs.Planning.{Chg, table_written}
use Rattle.dml_exec.specs.Reading.{GivenRows, images_of, inner_tables}

-- ---- the rows that were read

-- of the images of what is read for an UPDATE its target's stands behind those of its inner queries
abbrev pub target_image : List InnerQuery → List (List Row) → List Row
target_image inner images = get_or images (length (inner_tables inner)) []

-- the rows of which a write makes new ones: INSERT and DELETE make none of such
abbrev pub rows_before : BoundWrite → List (List Row) → List Row
rows_before (write.Insert table places given) images = []
rows_before (write.Update table sets test inner) images = target_image inner images
rows_before (write.Delete table test inner) images = []

-- the rows have the table's columns
abbrev pub HaveColumns : TableTree → List Row → Type 0
HaveColumns shape rows = AllByRecursion (λ row. IsTrue (has_columns shape.columns row)) rows

-- those that were read for a write have, and so have those that are given for its table, if there are such
abbrev pub RowsRead : Type 0
RowsRead = (given : GivenRows) (shapes : List TableTree) (level : Level) (vars : List Value) (of : BoundWrite) (shape : TableTree) (manner : Manner) (exchanges : List Exchange) (images : List (List Row))
    → shape_of (table_written of) shapes ≡ Some shape → ForSome (given (table_written of)) (HaveColumns shape) → Held manner (images_of given shapes level vars (bound.Write of)) exchanges (Ok images) → HaveColumns shape (rows_before of images)

-- ---- the changes

-- Changes of the table are right by themselves: rows are erased, and then rows that fit are written, of which none is
-- wrong alone.
pub record AreRight (shape : TableTree) (checks : List BoundTest) (erased written : List Planned) : Type 0 where
  pub of_table : AllByRecursion (λ change. change.table ≡ rows_table shape.name) (erased ++ written)
  pub erases : AllByRecursion (λ change. is_erase change.deed ≡ true) erased
  pub writes : AllByRecursion (λ change. is_erase change.deed ≡ false) written
  pub fit : AllByRecursion (λ change. ForSome (row_of change.deed) (λ row. IsTrue (row_fits shape 0 change.key row))) written
  pub alone : first_local (filter_map (λ change. row_of change.deed) written) shape checks ≡ None

-- what is planned is such changes
abbrev pub IsRight : TableTree → List BoundTest → List Planned → Type 0
IsRight shape checks planned = (erased written : List Planned) × (planned ≡ erased ++ written) × AreRight shape checks erased written

-- So is what a write plans for its table's own rows.
abbrev pub PlannedRight : Type 0
PlannedRight = (vars system : List Value) (shape : TableTree) (checks : List BoundTest) (of : BoundWrite) (images : List (List Row)) (planned : List Planned)
    → table_written of ≡ rows_table shape.name → HaveColumns shape (rows_before of images)
    → Chg vars system shape checks of images ≡ Ok planned → IsRight shape checks (own_changes planned)

-- ---- the database

-- the table that has a shape is the one of its name
abbrev pub ShapeNamed : Type 0
ShapeNamed = (table : TableName) (shapes : List TableTree) (shape : TableTree) → shape_of table shapes ≡ Some shape → table ≡ rows_table shape.name

-- no two of the tables have one name
abbrev pub AreOneEach : List TableTree → Type 0
AreOneEach shapes = AllByRecursion (λ of. shape_of (rows_table of.name) shapes ≡ Some of) shapes

-- each row of the table fits it
abbrev pub RowsFit : Database → TableTree → Type 0
RowsFit db shape = (key row : List Value) → Stands db shape key row → IsTrue (row_fits shape 0 key row)

-- Where all rows of a database fit their tables, they do behind what a write plans.
abbrev pub PlannedFits : Type 0
PlannedFits = (db : Database) (shapes : List TableTree) (vars system : List Value) (shape : TableTree) (checks : List BoundTest) (of : BoundWrite) (images : List (List Row)) (planned : List Planned)
    → AllByRecursion (RowsFit db) shapes → AreOneEach shapes → shape_of (table_written of) shapes ≡ Some shape → HaveColumns shape (rows_before of images)
    → Chg vars system shape checks of images ≡ Ok planned → AllByRecursion (RowsFit (behind db (own_changes planned))) shapes

-- what `Checked` asks for beside this: of the database and its tables, and of what checks say behind the changes
pub record ArePassed (db : Database) (shapes : List TableTree) (table : TableName) (shape : TableTree) (planned : List Planned) : Type 0 where
  pub one_key : KeysAreOne db
  pub one_name : AreOneEach shapes
  pub known : shape_of table shapes ≡ Some shape
  pub parents_known : AllByRecursion (λ foreign. IsSome (shape_of (rows_table foreign.parent) shapes)) shape.foreigns
  pub passes : AllByRecursion (Passes (behind db planned)) (reads_meant planned shapes)

-- So a database that keeps its tables' constraints keeps them behind what a write plans, if its checks pass.
abbrev pub PlannedKept : Type 0
PlannedKept = (db : Database) (tests : TableTree → List BoundTest) (shapes : List TableTree) (vars system : List Value) (shape : TableTree) (of : BoundWrite) (images : List (List Row)) (planned : List Planned)
    → AreKept db tests shapes → ArePassed db shapes (table_written of) shape (own_changes planned) → HaveColumns shape (rows_before of images)
    → Chg vars system shape (tests shape) of images ≡ Ok planned → AreKept (behind db (own_changes planned)) tests shapes
