-- Transact-SQL reference, by statement: the objects that a statement looks up, in the order of the text, each once. A
-- table does not look itself up as a parent; a cursor's select is looked up when it is opened; statements within a
-- statement look up for themselves.
use Rattle.std.specs.Prelude.{ℕ, is_some, if◌then◌else◌, List, [], ◌∷◌, ◌++◌, map, Option, Some, None, Ok, Err}
use Rattle.value_types.specs.Units.{same_units}
use Rattle.tsql_tree.specs.declared.definition.Definition.{Definition}
use Rattle.tsql_tree.specs.declared.definition.ForeignTree.{ForeignTree}
use Rattle.tsql_tree.specs.declared.query.Expr.{Expr}
use Rattle.tsql_tree.specs.declared.query.Test.{Test}
use Rattle.tsql_tree.specs.declared.statement.Assignment.{Assignment}
use Rattle.tsql_tree.specs.declared.statement.Declaration.{Declaration}
use Rattle.tsql_tree.specs.declared.statement.Form.{Form, Form-F, out-Form}
use Rattle.tsql_tree.specs.declared.statement.InsertRows.{InsertRows}
use Rattle.tsql_tree.specs.declared.statement.InsertRows.TheVariants.{Values, Query}
use Rattle.tsql_tree.specs.declared.statement.Statement.{Statement, out-Statement}
use Rattle.typed_nodes.specs.Refusals.{Outcome}
use Rattle.table_names.specs.Contents.{Names, all_of, distinct_onto, in_expr, in_select, in_test}
use Rattle.clause_binder.specs.Scope.{invalid_object, table_of}

-- a form of statements, with the statements within it as they are
abbrev pub Layer : Type 0
Layer = Form-F Form Statement

abbrev pub form_of : Statement → Layer
form_of statement = out-Form (out-Statement statement).form

-- ---- what the parts of a statement name

abbrev pub in_maybe_test : Option Test → Names
in_maybe_test None = []
in_maybe_test (Some test) = in_test test

abbrev pub in_maybe_expr : Option Expr → Names
in_maybe_expr None = []
in_maybe_expr (Some expr) = in_expr expr

abbrev pub in_row : List Expr → Names
in_row row = all_of (map in_expr row)

abbrev pub in_rows : InsertRows → Names
in_rows (Values rows) = all_of (map in_row rows)
in_rows (Query select) = in_select select

abbrev pub in_set : Assignment → Names
in_set set = in_expr set.value

abbrev pub in_sets : List Assignment → Names
in_sets sets = all_of (map in_set sets)

abbrev pub in_update : List ℕ → List Assignment → Option Test → Names
in_update table sets filter = table ∷ (in_sets sets ++ in_maybe_test filter)

abbrev pub in_initial : Declaration → Names
in_initial declaration = in_maybe_expr declaration.initial

abbrev pub in_initials : List Declaration → Names
in_initials declarations = all_of (map in_initial declarations)

-- the table that is referred to, but not the one that is made
abbrev pub in_foreign : List ℕ → ForeignTree → Names
in_foreign table foreign = if same_units foreign.parent table then [] else foreign.parent ∷ []

-- ---- what a statement names

-- the tables
abbrev pub table_names : Layer → Names
table_names (Form-F.Select select) = in_select select
table_names (Form-F.Insert table columns rows) = table ∷ in_rows rows
table_names (Form-F.Update table sets filter) = in_update table sets filter
table_names (Form-F.Delete table filter) = table ∷ in_maybe_test filter
table_names (Form-F.CreateTable table text) = all_of (map (in_foreign table.name) table.foreigns)
table_names (Form-F.If test so otherwise) = in_test test
table_names (Form-F.While test body) = in_test test
table_names (Form-F.Print text) = in_expr text
table_names (Form-F.RaiseError text severity state) = in_expr text ++ (in_expr severity ++ in_expr state)
table_names (Form-F.Return value) = in_maybe_expr value
table_names (Form-F.Throw number text state) = in_expr number ++ (in_expr text ++ in_expr state)
table_names (Form-F.Declare declarations) = in_initials declarations
table_names (Form-F.SetVariable name value) = in_expr value
table_names _ = []

-- what is dropped or run, which need not be a table
abbrev pub object_names : Layer → Names
object_names (Form-F.Drop kind name) = name ∷ []
object_names (Form-F.Execute status name arguments) = name ∷ []
object_names _ = []

-- what a statement looks up
abbrev pub looked_up : Statement → Names
looked_up statement = distinct_onto [] (table_names (form_of statement) ++ object_names (form_of statement))

-- ---- tables

-- each of the names is a table's, else the first that is none is refused
abbrev pub all_tables : List Definition → Names → Outcome (Unit {0})
all_tables definitions [] = Ok tt
all_tables definitions (name ∷ rest) = if is_some (table_of name definitions) then all_tables definitions rest else Err (invalid_object, name)
