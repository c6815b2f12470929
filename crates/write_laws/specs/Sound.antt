-- Own: what of a database is to be kept, of `objects` and of the tables that it defines. It is said of the whole map at
-- once. A name is looked up at its own key, and the row there has the name: so of names that differ in the spaces at their
-- ends alone, whose keys compare equal, one at most is defined.
use Rattle.std.specs.Prelude.{◌≡◌, ◌≤◌, ◌⊎◌, ℕ, false, IsTrue, List, length, Some, None, Ok}
use Rattle.std.specs.List.{AllByRecursion}
use Rattle.value_types.specs.declared.table_name.TableName.{TableName}
use Rattle.value_types.specs.declared.value.Value.{Value}
use Rattle.tsql_tree.specs.declared.definition.Definition.{Definition}
use Rattle.tsql_tree.specs.declared.definition.Definition.TheVariants.{Table, Trigger}
use Rattle.tsql_tree.specs.declared.definition.ForeignTree.{ForeignTree}
use Rattle.tsql_tree.specs.declared.definition.TableTree.{TableTree}
use Rattle.tsql_tree.specs.declared.definition.TriggerTree.{TriggerTree}
use Rattle.tsql_tree.specs.Places.{key_places}
use Rattle.bound_tree.specs.declared.expr.BoundTest.{BoundTest}
use Rattle.clause_binder.specs.Scope.{max_columns}
use Rattle.binder.specs.Statements.{bind_checks}
use Rattle.step_model.specs.Database.{Database}
use Rattle.table_rows.specs.Definitions.{IsDefinitionOf, is_objects, object_key, objects_name}
use Rattle.table_rows.specs.Rows.{places_of, row_fits, rows_table, same_key}
use Rattle.constraint_check.specs.Integrity.{HasParents, IsKept, IsUnique, Stands, has_false}
use Rattle.constraint_check.specs.Laws.{KeysAreOne}
use Rattle.constraint_check.specs.Local.{null_in}

-- ---- what is defined

-- the row at the name's key defines it so
abbrev pub IsDefined : Database → List ℕ → Definition → Type 0
IsDefined db name definition = (row : List Value) × (db (rows_table objects_name) (object_key name) ≡ Some row) × IsDefinitionOf name row (Some definition)

-- the table of this shape is defined
abbrev pub IsTableOf : Database → TableTree → Type 0
IsTableOf db shape = IsDefined db shape.name (Table shape)

-- a table of the name is defined
abbrev pub HasTable : Database → List ℕ → Type 0
HasTable db name = (shape : TableTree) × IsTableOf db shape × (shape.name ≡ name)

-- ---- rows

-- A row of `objects` defines one name, at that name's key. The name is not that of `objects`.
pub record DefinesOne (key row : List Value) : Type 0 where
  pub name : List ℕ
  pub definition : Definition
  pub at : IsTrue (same_key (object_key name) key)
  pub other : is_objects name ≡ false
  pub defines : IsDefinitionOf name row (Some definition)

-- the table is `objects`, or one that is defined
abbrev pub IsKnown : Database → TableName → Type 0
IsKnown db table = (table ≡ rows_table objects_name) ⊎ ((shape : TableTree) × IsTableOf db shape × (table ≡ rows_table shape.name))

-- ---- tables

-- the table's CHECKs can be bound, and its rows keep its constraints
abbrev pub Keeps : Database → TableTree → Type 0
Keeps db shape = (tests : List BoundTest) × (bind_checks shape ≡ Ok tests) × IsKept db shape tests

-- a FOREIGN KEY of the table refers to this one, by as many columns as its key has
abbrev pub RefersTo : TableTree → ForeignTree → TableTree → Type 0
RefersTo shape foreign parent = (parent.name ≡ foreign.parent) × (length (places_of shape foreign.columns) ≡ length (key_places (Some parent)))

-- to one that is defined
abbrev pub HasParentTable : Database → TableTree → ForeignTree → Type 0
HasParentTable db shape foreign = (parent : TableTree) × IsTableOf db parent × RefersTo shape foreign parent

-- each of its FOREIGN KEYs does
abbrev pub HasParentTables : Database → TableTree → Type 0
HasParentTables db shape = AllByRecursion (HasParentTable db shape) shape.foreigns

-- ---- the whole

-- a row of `objects` reads as a definition of its name, and stands at that name's key
abbrev pub ReadsAsOne : List Value → List Value → Type 0
ReadsAsOne key row = (name : List ℕ) × (definition : Definition) × IsTrue (same_key (object_key name) key) × IsDefinitionOf name row (Some definition)

-- What of a database's own rows is to be kept. Each row of `objects` reads as a definition of its name; each other row is one of a table that is
-- defined, and has its columns' types and its own key, breaks no NOT NULL and makes no CHECK false. UNIQUE holds, and NULLs are equal
-- there; each FOREIGN KEY without a NULL has its parent's row; and the parent table of each FOREIGN KEY is defined, as is the table of
-- each trigger.
pub record SoundRows (db : Database) : Type 0 where
  pub definitions : (key row : List Value) → db (rows_table objects_name) key ≡ Some row → ReadsAsOne key row
  pub known : (table : TableName) (key row : List Value) → db table key ≡ Some row → IsKnown db table
  pub fits : (shape : TableTree) (key row : List Value) → IsTableOf db shape → Stands db shape key row → IsTrue (row_fits shape 0 key row)
  pub no_null : (shape : TableTree) (key row : List Value) → IsTableOf db shape → Stands db shape key row → null_in shape row ≡ None
  pub no_false : (shape : TableTree) (tests : List BoundTest) (key row : List Value) → IsTableOf db shape → bind_checks shape ≡ Ok tests → Stands db shape key row → has_false shape.checks tests row ≡ false
  pub unique : (shape : TableTree) → IsTableOf db shape → AllByRecursion (IsUnique db shape) shape.uniques
  pub parents : (shape : TableTree) → IsTableOf db shape → AllByRecursion (HasParents db shape) shape.foreigns
  pub parent_tables : (shape : TableTree) → IsTableOf db shape → AllByRecursion (λ foreign. HasTable db foreign.parent) shape.foreigns
  pub triggers : (name : List ℕ) (trigger : TriggerTree) → IsDefined db name (Trigger trigger) → HasTable db trigger.table

-- And what of it statements keep, which is more: keys that compare equal are one key; no definition has the name of `objects`; a table has
-- no more columns than a table may have, its CHECKs can be bound, and a FOREIGN KEY has as many columns as its parent's key.
pub record Firm (db : Database) : Type 0 where
  pub one_key : KeysAreOne db
  pub definitions : (key row : List Value) → db (rows_table objects_name) key ≡ Some row → DefinesOne key row
  pub known : (table : TableName) (key row : List Value) → db table key ≡ Some row → IsKnown db table
  pub few : (shape : TableTree) → IsTableOf db shape → length shape.columns ≤ max_columns
  pub kept : (shape : TableTree) → IsTableOf db shape → Keeps db shape
  pub parents : (shape : TableTree) → IsTableOf db shape → HasParentTables db shape
  pub triggers : (name : List ℕ) (trigger : TriggerTree) → IsDefined db name (Trigger trigger) → HasTable db trigger.table
