-- Own: a database without rows has its index parts as they are to be, and has them so behind each change of definitions; behind DROP TABLE
-- where its changes erase all rows of all parts. `Indexing` says that a write keeps it.
use Rattle.std.specs.Prelude.{◌≡◌, ℕ, true, IsTrue, IsSome, List, [], ◌∷◌}
use Rattle.std.specs.List.{AllByRecursion, list_any}
use Rattle.value_types.specs.declared.table_name.TableName.{TableName}
use Rattle.value_types.specs.declared.value.Value.{Value}
use Rattle.tsql_tree.specs.declared.definition.Definition.{Definition}
use Rattle.tsql_tree.specs.declared.definition.TableTree.{TableTree}
use Rattle.step_model.specs.declared.change.Planned.{Planned}
use Rattle.step_model.specs.Database.{Database, is_at, nothing}
use Rattle.step_model.specs.Own.{change_of, own_changes}
use Rattle.table_rows.specs.Definitions.{defined_name}
use Rattle.constraint_check.specs.Laws.{behind}
use Rattle.constraint_check.specs.Reads.{is_erase}
use Rattle.batch_meaning.specs.Changing.{definition_erased, with_definitions}
use Rattle.statement_paths.specs.Paths.{definition_put}
use Rattle.write_laws.specs.Keeping.{IsCreated, IsNoTable, IsPut, with_definition}
use Rattle.write_laws.specs.Sound.{Firm, IsDefined, IsTableOf}
use Rattle.write_laws.specs.Indexed.{Indexed, own_rows}

-- the own rows behind changes are those behind the changes of own rows
abbrev pub OwnBehind : Type 0
OwnBehind = (db : Database) (changes : List Planned) → own_rows (behind db changes) ≡ behind (own_rows db) (own_changes changes)

abbrev pub IndexedEmpty : Type 0
IndexedEmpty = Indexed nothing

-- CREATE TABLE: no row is there of a table that was not defined
abbrev pub IndexedCreated : Type 0
IndexedCreated = (db : Database) (name text : List ℕ) (table : TableTree) → Firm (own_rows db) → Indexed db → IsCreated (own_rows db) name text table → Indexed (behind db (definition_put name text ∷ []))

-- CREATE and DROP of a procedure or trigger
abbrev pub IndexedPut : Type 0
IndexedPut = (db : Database) (name text : List ℕ) (definition : Definition) → Firm (own_rows db) → Indexed db → IsPut (own_rows db) name text definition → Indexed (behind db (definition_put name text ∷ []))

abbrev pub IndexedErased : Type 0
IndexedErased = (db : Database) (name : List ℕ) → Firm (own_rows db) → Indexed db → IsNoTable (own_rows db) name → Indexed (behind db (definition_erased name ∷ []))

-- Changes erase all rows of all parts of a table.
pub record AreEmptied (db : Database) (shape : TableTree) (changes : List Planned) : Type 0 where
  pub defined : IsTableOf db shape
  pub of_parts : AllByRecursion (λ change. change.table.object ≡ shape.name) changes
  pub erases : AllByRecursion (λ change. is_erase change.deed ≡ true) changes
  pub whole : (table : TableName) (key : List Value) → table.object ≡ shape.name → IsSome (db table key) → IsTrue (list_any (λ change. is_at (change_of change) table key) changes)

-- DROP TABLE: these and the erasure of its definition
abbrev pub IndexedDropped : Type 0
IndexedDropped = (db : Database) (shape : TableTree) (changes : List Planned) → Firm (own_rows db) → Indexed db → AreEmptied db shape changes → Indexed (behind db (with_definition shape.name changes))

-- and these, where the definitions of its triggers are erased before its own
abbrev pub IndexedCleared : Type 0
IndexedCleared = (db : Database) (definitions : List Definition) (shape : TableTree) (changes : List Planned) → Firm (own_rows db) → Indexed db
    → AllByRecursion (λ definition. IsDefined db (defined_name definition) definition) definitions → AreEmptied db shape changes → Indexed (behind db (with_definitions definitions shape.name changes))
