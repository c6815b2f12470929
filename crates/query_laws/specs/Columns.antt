-- Own: the types of what a select may read, by the definitions of its tables and by the variables.
use Rattle.std.specs.Prelude.{List, map}
use Rattle.value_types.specs.declared.sql_type.SqlType.{SqlType}
use Rattle.value_types.specs.declared.table_name.TableName.{TableName}
use Rattle.session_vars.specs.declared.Variable.{Variable}
use Rattle.tsql_tree.specs.declared.definition.ColumnTree.{ColumnTree}
use Rattle.tsql_tree.specs.declared.definition.Definition.{Definition}
use Rattle.clause_binder.specs.Scope.{columns_of, table_of}

abbrev pub kinds : List ColumnTree → List SqlType
kinds columns = map (λ column. column.kind) columns

-- of a table's columns; what is not defined has none
abbrev pub tables_in : List Definition → TableName → List SqlType
tables_in definitions table = kinds (columns_of (table_of table.object definitions))

abbrev pub variable_kinds : List Variable → List SqlType
variable_kinds vars = map (λ of. of.kind) vars
