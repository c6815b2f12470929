-- Own: the laws. A firm database is sound. The database without rows is firm, and so is what a firm one becomes by each
-- of the changes that statements make: by a write of a table, by DROP TABLE and by CREATE TABLE, and by those of a procedure or trigger. They
-- are facts of maps: nothing is said here of how the changes come about.
use Rattle.std.specs.Prelude.{◌≡◌, ◌≢◌, ◌≤◌, ◌⊎◌, ℕ, true, false, IsTrue, IsSome, List, [], ◌∷◌, ◌++◌, length, Some, None, Ok, Err}
use Rattle.std.specs.List.{AllByRecursion, list_any}
use Rattle.value_types.specs.declared.value.Value.{Value}
use Rattle.tsql_tree.specs.declared.definition.Definition.{Definition}
use Rattle.tsql_tree.specs.declared.definition.Definition.TheVariants.{Table, Procedure, Trigger}
use Rattle.tsql_tree.specs.declared.definition.TableTree.{TableTree}
use Rattle.tsql_tree.specs.declared.definition.TriggerTree.{TriggerTree}
use Rattle.tsql_tree.specs.Places.{key_places}
use Rattle.bound_tree.specs.declared.expr.BoundTest.{BoundTest}
use Rattle.typed_nodes.specs.Refusals.{Outcome}
use Rattle.clause_binder.specs.Scope.{max_columns}
use Rattle.binder.specs.Statements.{bind_checks}
use Rattle.step_model.specs.declared.change.Planned.{Planned}
use Rattle.step_model.specs.Database.{Database, nothing}
use Rattle.table_rows.specs.Definitions.{Defines, defined_name, is_objects, object_key, objects_name, tables_of}
use Rattle.table_rows.specs.Rows.{rows_table, same_key, shape_of}
use Rattle.constraint_check.specs.Integrity.{AreKept}
use Rattle.constraint_check.specs.Laws.{behind}
use Rattle.constraint_check.specs.Reads.{is_erase}
use Rattle.write_laws.specs.Planning.{AreOneEach}
use Rattle.batch_meaning.specs.Changing.{definition_erased, is_referred}
use Rattle.statement_paths.specs.Paths.{definition_put}
use Rattle.write_laws.specs.Reads.{HaveParents, KeysHave}
use Rattle.write_laws.specs.Sound.{HasParentTable, HasTable, RefersTo, IsDefined, IsTableOf, SoundRows, Firm}

-- ---- tables that are given

-- they are exactly those that are defined: each is found by its name
pub record AreTables (db : Database) (shapes : List TableTree) : Type 0 where
  pub defined : AllByRecursion (IsTableOf db) shapes
  pub found : (shape : TableTree) → IsTableOf db shape → shape_of (rows_table shape.name) shapes ≡ Some shape

-- what a table's CHECKs are bound to, where they can be
abbrev pub tests_in : Outcome (List BoundTest) → List BoundTest
tests_in (Ok tests) = tests
tests_in (Err refusal) = []

abbrev pub tests_of : TableTree → List BoundTest
tests_of shape = tests_in (bind_checks shape)

-- what is asked of them where a table is written
pub record AreReady (db : Database) (shapes : List TableTree) (shape : TableTree) : Type 0 where
  pub kept : AreKept db tests_of shapes
  pub one_name : AreOneEach shapes
  pub known : shape_of (rows_table shape.name) shapes ≡ Some shape
  pub parents : HaveParents shapes
  pub parents_known : AllByRecursion (λ foreign. IsSome (shape_of (rows_table foreign.parent) shapes)) shape.foreigns
  pub bound : bind_checks shape ≡ Ok (tests_of shape)
  pub other : is_objects shape.name ≡ false

-- In a firm database all of that is so.
abbrev pub TablesReady : Type 0
TablesReady = (db : Database) (shapes : List TableTree) (shape : TableTree) → Firm db → AreTables db shapes → IsTableOf db shape → AreReady db shapes shape

-- ---- keys

-- In a firm database the keys of `objects` have one value each, and those of a table as many as its PRIMARY KEY has columns.
abbrev pub KeysSized : Type 0
KeysSized = (db : Database) → Firm db → KeysHave 1 db (rows_table objects_name) × ((shape : TableTree) → IsTableOf db shape → KeysHave (length (key_places (Some shape))) db (rows_table shape.name))

-- ---- soundness

abbrev pub FirmSound : Type 0
FirmSound = (db : Database) → Firm db → SoundRows db

-- ---- no rows

abbrev pub FirmEmpty : Type 0
FirmEmpty = Firm nothing

-- ---- a write

-- changes of one of the tables keep a database firm, if all tables keep their constraints behind them
abbrev pub FirmWritten : Type 0
FirmWritten = (db : Database) (shapes : List TableTree) (shape : TableTree) (planned : List Planned) → Firm db → AreTables db shapes → IsTableOf db shape
    → AllByRecursion (λ change. change.table ≡ rows_table shape.name) planned → AreKept (behind db planned) tests_of shapes → Firm (behind db planned)

-- ---- DROP TABLE

-- behind the changes its definition is erased
abbrev pub with_definition : List ℕ → List Planned → List Planned
with_definition name changes = changes ++ definition_erased name ∷ []

-- Changes of a table erase all its rows, and nothing refers to it but itself.
pub record AreErased (db : Database) (tables : List TableTree) (shape : TableTree) (changes : List Planned) : Type 0 where
  pub defined : IsTableOf db shape
  pub of_table : AllByRecursion (λ change. change.table ≡ rows_table shape.name) changes
  pub erases : AllByRecursion (λ change. is_erase change.deed ≡ true) changes
  pub whole : (key : List Value) → IsSome (db (rows_table shape.name) key) → IsTrue (list_any (λ change. same_key change.key key) changes)
  pub unreferred : is_referred shape.name tables ≡ false
  pub unfired : (name : List ℕ) (trigger : TriggerTree) → IsDefined db name (Trigger trigger) → trigger.table ≢ shape.name

-- these and the erasure of its definition keep a database firm
abbrev pub FirmDropped : Type 0
FirmDropped = (db : Database) (tables : List TableTree) (shape : TableTree) (changes : List Planned) → Firm db → AreTables db tables
    → AreErased db tables shape changes → Firm (behind db (with_definition shape.name changes))

-- ---- CREATE TABLE

-- A table has no more columns than a table may have, its CHECKs can be bound, and it refers to tables that are defined, or
-- to itself.
pub record CanStand (db : Database) (table : TableTree) : Type 0 where
  pub few : length table.columns ≤ max_columns
  pub bound : (tests : List BoundTest) × (bind_checks table ≡ Ok tests)
  pub parents : AllByRecursion (λ foreign. RefersTo table foreign table ⊎ HasParentTable db table foreign) table.foreigns

-- The text defines such a table of the name, where nothing is defined.
pub record IsCreated (db : Database) (name text : List ℕ) (table : TableTree) : Type 0 where
  pub free : db (rows_table objects_name) (object_key name) ≡ None
  pub defines : Defines name text (Table table)
  pub other : is_objects name ≡ false
  pub stands : CanStand db table

-- its insertion keeps a database firm
abbrev pub FirmCreated : Type 0
FirmCreated = (db : Database) (name text : List ℕ) (table : TableTree) → Firm db → IsCreated db name text table → Firm (behind db (definition_put name text ∷ []))

-- ---- procedures and triggers

-- what is no table may be defined; the table of a trigger is
abbrev pub CanBeDefined : Database → Definition → Type 0
CanBeDefined db (Table table) = ⊥
CanBeDefined db (Procedure procedure) = Unit {0}
CanBeDefined db (Trigger trigger) = HasTable db trigger.table

-- The text defines such a thing of the name, where nothing is defined.
pub record IsPut (db : Database) (name text : List ℕ) (definition : Definition) : Type 0 where
  pub free : db (rows_table objects_name) (object_key name) ≡ None
  pub defines : Defines name text definition
  pub other : is_objects name ≡ false
  pub can : CanBeDefined db definition

-- its insertion keeps a database firm
abbrev pub FirmPut : Type 0
FirmPut = (db : Database) (name text : List ℕ) (definition : Definition) → Firm db → IsPut db name text definition → Firm (behind db (definition_put name text ∷ []))

-- no table stands at the name's key
abbrev pub IsNoTable : Database → List ℕ → Type 0
IsNoTable db name = (shape : TableTree) → IsTableOf db shape → same_key (object_key name) (object_key shape.name) ≡ false

-- what stands there may be erased
abbrev pub FirmErased : Type 0
FirmErased = (db : Database) (name : List ℕ) → Firm db → IsNoTable db name → Firm (behind db (definition_erased name ∷ []))

-- ---- all definitions

abbrev pub IsAmong : Definition → List Definition → Type 0
IsAmong definition [] = ⊥
IsAmong definition (of ∷ rest) = (of ≡ definition) ⊎ IsAmong definition rest

-- they are exactly those of the database
pub record AreDefinitions (db : Database) (definitions : List Definition) : Type 0 where
  pub tables : AreTables db (tables_of definitions)
  pub defined : AllByRecursion (λ definition. IsDefined db (defined_name definition) definition) definitions
  pub found : (name : List ℕ) (definition : Definition) → IsDefined db name definition → IsAmong definition definitions

-- ---- triggers

-- no trigger is defined
abbrev pub HasNoTrigger : Database → Type 0
HasNoTrigger db = (name : List ℕ) (trigger : TriggerTree) → IsDefined db name (Trigger trigger) → ⊥

-- None comes to be by any of these changes.
abbrev pub UntriggeredEmpty : Type 0
UntriggeredEmpty = HasNoTrigger nothing

abbrev pub UntriggeredWritten : Type 0
UntriggeredWritten = (db : Database) (shape : TableTree) (planned : List Planned) → Firm db → IsTableOf db shape
    → AllByRecursion (λ change. change.table ≡ rows_table shape.name) planned → HasNoTrigger db → HasNoTrigger (behind db planned)

abbrev pub UntriggeredDropped : Type 0
UntriggeredDropped = (db : Database) (shape : TableTree) (changes : List Planned) → Firm db → IsTableOf db shape
    → AllByRecursion (λ change. change.table ≡ rows_table shape.name) changes → HasNoTrigger db → HasNoTrigger (behind db (with_definition shape.name changes))

abbrev pub UntriggeredCreated : Type 0
UntriggeredCreated = (db : Database) (name text : List ℕ) (table : TableTree) → Defines name text (Table table) → HasNoTrigger db → HasNoTrigger (behind db (definition_put name text ∷ []))
