-- The laws: what a statement is bound to is well formed, where each table that is defined is sound; a table whose CREATE
-- TABLE is bound is; and what the CHECKs of a sound table are bound to is well formed over its row alone.
use Rattle.std.specs.Prelude.{◌≡◌, ℕ, IsTrue, List, [], ◌∷◌, Ok}
use Rattle.session_vars.specs.declared.Variable.{Variable}
use Rattle.tsql_tree.specs.declared.definition.Definition.{Definition}
use Rattle.tsql_tree.specs.declared.definition.Definition.TheVariants.{Table, Procedure, Trigger}
use Rattle.tsql_tree.specs.declared.definition.TableTree.{TableTree}
use Rattle.tsql_tree.specs.declared.statement.Form.{Form-F}
use Rattle.tsql_tree.specs.declared.statement.Statement.{Statement}
use Rattle.bound_tree.specs.declared.expr.BoundTest.{BoundTest}
use Rattle.bound_tree.specs.declared.write.Bound.{Bound}
use Rattle.bound_tree.specs.Typed.{is_formed_test, row_types}
use Rattle.binder.specs.Names.{form_of}
use Rattle.binder.specs.Statements.{bind, bind_checks}
use Rattle.query_laws.specs.Columns.{kinds}
use Rattle.query_laws.specs.Laws.{AllOf}
use Rattle.query_laws.specs.Parts.{AreSound}
use Rattle.binding_laws.specs.Formed.{is_formed_bound}

-- ---- statements

-- a table that there may be
abbrev pub IsSoundTable : TableTree → Type 0
IsSoundTable table = AreSound (record { name = table.name; columns = table.columns } ∷ [])

abbrev pub IsSoundDefinition : Definition → Type 0
IsSoundDefinition (Table of) = IsSoundTable of
IsSoundDefinition (Procedure of) = Unit {0}
IsSoundDefinition (Trigger of) = Unit {0}

abbrev pub BoundFormed : Type 0
BoundFormed = (definitions : List Definition) (vars : List Variable) (statement : Statement) (bound : Bound) → AllOf IsSoundDefinition definitions
    → bind definitions vars statement ≡ Ok bound → IsTrue (is_formed_bound definitions vars bound)

-- a table that is made
abbrev pub TableCreated : Type 0
TableCreated = (definitions : List Definition) (vars : List Variable) (statement : Statement) (table : TableTree) (text : List ℕ) (bound : Bound) → form_of statement ≡ Form-F.CreateTable table text
    → bind definitions vars statement ≡ Ok bound → IsSoundTable table

-- ---- CHECKs

-- over a row of its table, and nothing else
abbrev pub ChecksFormed : Type 0
ChecksFormed = (table : TableTree) (tests : List BoundTest) → IsSoundTable table → bind_checks table ≡ Ok tests
    → AllOf (λ test. IsTrue (is_formed_test (row_types (kinds table.columns)) test)) tests
