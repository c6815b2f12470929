-- The laws: a row that fits a table has a value for each column, of its type; so an image of such rows is one of the
-- types that queries are bound over. A definition that was written is read again, and a row says one thing.
use Rattle.std.specs.Prelude.{◌≡◌, ◌↔◌, ℕ, IsTrue, List, All, Option, Some}
use Rattle.value_types.specs.declared.sql_type.SqlType.{SqlType}
use Rattle.value_types.specs.declared.table_name.TableName.{TableName}
use Rattle.value_types.specs.declared.value.Value.{Value}
use Rattle.value_types.specs.Types.{IsOf}
use Rattle.tsql_tree.specs.declared.definition.TableTree.{TableTree}
use Rattle.tsql_tree.specs.declared.definition.Definition.{Definition}
use Rattle.clause_binder.specs.Scope.{table_of}
use Rattle.query_laws.specs.Columns.{kinds, tables_in}
use Rattle.query_laws.specs.Laws.{AreExactly, RowsOf}
use Rattle.table_rows.specs.Rows.{has_columns, is_value_of, row_fits}
use Rattle.table_rows.specs.Definitions.{Defines, IsDefinitionOf, row_of}

-- the test is the relation
abbrev pub ValueOfType : Type 0
ValueOfType = (kind : SqlType) (value : Value) → IsTrue (is_value_of kind value) ↔ IsOf kind value

-- a row that fits has exactly a value for each column, of its type
abbrev pub RowTyped : Type 0
RowTyped = (shape : TableTree) (key row : List Value) → IsTrue (row_fits shape 0 key row) → AreExactly (kinds shape.columns) row

-- an image whose rows have the columns of the table of that name is one of its columns' types
abbrev pub ImageTyped : Type 0
ImageTyped = (definitions : List Definition) (table : TableName) (shape : TableTree) (rows : List (List Value)) → table_of table.object definitions ≡ Some shape
    → All (λ row. IsTrue (has_columns shape.columns row)) rows → RowsOf (tables_in definitions table) rows

-- what was written as a definition is read as it
abbrev pub WrittenRead : Type 0
WrittenRead = (name text : List ℕ) (definition : Definition) → Defines name text definition → IsDefinitionOf name (row_of name text) (Some definition)

-- a row says one thing of a name
abbrev pub OneDefinition : Type 0
OneDefinition = (name : List ℕ) (row : List Value) (x y : Option Definition) → IsDefinitionOf name row x → IsDefinitionOf name row y → x ≡ y
