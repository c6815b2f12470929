-- The laws: rows that were read and give no error break nothing; and where a database keeps its tables' constraints, it keeps them
-- behind the changes of a statement that pass all checks.
use Rattle.std.specs.Prelude.{◌≡◌, ◌++◌, true, false, IsTrue, IsSome, List, filter_map, map, Some, None}
use Rattle.std.specs.List.{AllByRecursion}
use Rattle.std.specs.Option.{ForSome}
use Rattle.std.specs.Ordering.{eq_by_cmp}
use Rattle.value_types.specs.declared.table_name.TableName.{TableName}
use Rattle.value_types.specs.declared.value.Value.{Value}
use Rattle.value_types.specs.Order.{key_cmp}
use Rattle.tsql_tree.specs.declared.definition.TableTree.{TableTree}
use Rattle.bound_tree.specs.declared.expr.BoundTest.{BoundTest}
use Rattle.step_model.specs.declared.change.Planned.{Planned}
use Rattle.step_model.specs.Database.{Database, In, With, is_within}
use Rattle.step_model.specs.Own.{change_of, row_of}
use Rattle.table_rows.specs.Rows.{row_fits, rows_table, shape_of}
use Rattle.constraint_check.specs.declared.check_read.Check.{Check}
use Rattle.constraint_check.specs.declared.check_read.Check.TheVariants.{Unique, Child, Parent}
use Rattle.constraint_check.specs.declared.check_read.CheckRead.{CheckRead}
use Rattle.constraint_check.specs.Local.{first_local}
use Rattle.constraint_check.specs.Meant.{reads_meant}
use Rattle.constraint_check.specs.Reads.{is_erase}
use Rattle.constraint_check.specs.Judged.{agrees, judge}
use Rattle.constraint_check.specs.Integrity.{AreKept}

-- keys that compare equal are one key, as in every database that commits have made
abbrev pub KeysAreOne : Database → Type 0
KeysAreOne db = (table : TableName) (key other : List Value) → eq_by_cmp key_cmp key other ≡ true → db table key ≡ db table other

-- a row of the range that has the values that are asked for
abbrev pub Agrees : Database → CheckRead → List Value → List Value → Type 0
Agrees db read key row = IsTrue (is_within read.range.start read.range.stop key) × (db read.range.table key ≡ Some row) × (agrees read row ≡ true)

-- by what is checked: of UNIQUE all such rows are at one key, of a row's parent there is one, of a parent's rows there is none
abbrev pub PassesBy : Check → Database → CheckRead → Type 0
PassesBy Unique db read = (key other row and_row : List Value) → Agrees db read key row → Agrees db read other and_row → IsTrue (eq_by_cmp key_cmp key other)
PassesBy Child db read = (key : List Value) × (row : List Value) × Agrees db read key row
PassesBy Parent db read = (key row : List Value) → Agrees db read key row → ⊥

-- the database has nothing in the range that breaks what is checked
abbrev pub Passes : Database → CheckRead → Type 0
Passes db read = PassesBy read.check db read

-- it has not where the rows that were read are those of the range, and give no error
abbrev pub JudgedPasses : Type 0
JudgedPasses = (db : Database) (read : CheckRead) (rows : List (List Value × List Value)) → KeysAreOne db → In db read.range.table read.range.start read.range.stop rows
    → judge read (map (λ at. at.1) rows) ≡ None → Passes db read

-- the database behind changes
abbrev pub behind : Database → List Planned → Database
behind db changes = With db (map change_of changes)

-- Changes of one of the tables pass all checks: rows are erased, and then rows that fit are written; these are right by
-- themselves; and what the checks say behind all changes is so.
pub record Checked (db : Database) (tests : TableTree → List BoundTest) (shapes : List TableTree) (shape : TableTree) (erased written : List Planned) : Type 0 where
  pub one_key : KeysAreOne db
  pub one_name : AllByRecursion (λ of. shape_of (rows_table of.name) shapes ≡ Some of) shapes
  pub known : shape_of (rows_table shape.name) shapes ≡ Some shape
  pub parents_known : AllByRecursion (λ foreign. IsSome (shape_of (rows_table foreign.parent) shapes)) shape.foreigns
  pub of_table : AllByRecursion (λ change. change.table ≡ rows_table shape.name) (erased ++ written)
  pub erases : AllByRecursion (λ change. is_erase change.deed ≡ true) erased
  pub writes : AllByRecursion (λ change. is_erase change.deed ≡ false) written
  pub fit : AllByRecursion (λ change. ForSome (row_of change.deed) (λ row. IsTrue (row_fits shape 0 change.key row))) written
  pub alone : first_local (filter_map (λ change. row_of change.deed) written) shape (tests shape) ≡ None
  pub passes : AllByRecursion (Passes (behind db (erased ++ written))) (reads_meant (erased ++ written) shapes)

abbrev pub CheckedKept : Type 0
CheckedKept = (db : Database) (tests : TableTree → List BoundTest) (shapes : List TableTree) (shape : TableTree) (erased written : List Planned)
    → AreKept db tests shapes → Checked db tests shapes shape erased written → AreKept (behind db (erased ++ written)) tests shapes
