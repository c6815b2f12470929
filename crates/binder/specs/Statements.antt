-- Transact-SQL reference, by statement: what a statement is bound to, or the first refusal. Tables come first, in
-- the order of the text; then what the statement is made of; what is outside a limit comes last of all.
use Rattle.std.specs.Prelude.{ℕ, Bool, false, ◌||◌, not, nat_le, nat_lt, if◌then◌else◌, List, [], ◌∷◌, length, filter_map, slice_get, Option, Some, None, Ok}
use Rattle.std.specs.List.{list_any}
use Rattle.value_types.specs.Types.{text_limit}
use Rattle.value_types.specs.declared.value.Value.{Value}
use Rattle.value_types.specs.declared.value.Value.TheVariants as value
use Rattle.session_vars.specs.declared.Variable.{Variable}
use Rattle.session_vars.specs.Variables.{place_of}
use Rattle.tsql_tree.specs.declared.definition.Definition.{Definition}
use Rattle.tsql_tree.specs.declared.definition.TableTree.{TableTree}
use Rattle.tsql_tree.specs.declared.query.Expr.{Expr}
use Rattle.tsql_tree.specs.declared.statement.Argument.{Argument}
use Rattle.tsql_tree.specs.declared.statement.ArgumentValue.{ArgumentValue}
use Rattle.tsql_tree.specs.declared.statement.ArgumentValue.TheVariants as given
use Rattle.tsql_tree.specs.declared.statement.Declaration.{Declaration}
use Rattle.tsql_tree.specs.declared.statement.Form.{Form-F}
use Rattle.tsql_tree.specs.declared.statement.Statement.{Statement}
use Rattle.bound_tree.specs.declared.expr.BoundTest.{BoundTest}
use Rattle.bound_tree.specs.declared.write.Bound.{Bound}
use Rattle.bound_tree.specs.declared.write.Bound.TheVariants as bound
use Rattle.typed_nodes.specs.Nodes.{is_kind}
use Rattle.typed_nodes.specs.Refusals.{Outcome, after}
use Rattle.clause_binder.specs.declared.operand.Selected.{Selected}
use Rattle.table_names.specs.Contents.{distinct_onto}
use Rattle.clause_binder.specs.Scope.{is_long, max_variables}
use Rattle.clause_binder.specs.Bind.{query_of}
use Rattle.binder.specs.declared.made.Made.{Made}
use Rattle.binder.specs.Names.{Layer, all_tables, form_of, table_names}
use Rattle.binder.specs.Limits.{is_beyond, within_limits}
use Rattle.binder.specs.Values.{test_query, three_query, values_query}
use Rattle.binder.specs.Writes.{delete, insert, update}
use Rattle.binder.specs.Tables.{checks_of, create_table}

-- ---- names that stand alone in a statement: of transactions, savepoints, cursors, procedures, variables

abbrev pub is_maybe_long : Option (List ℕ) → Bool
is_maybe_long None = false
is_maybe_long (Some name) = is_long name

-- a text of more units than a text may have
abbrev pub is_odd_constant : Value → Bool
is_odd_constant (value.Text units) = nat_lt text_limit (length units)
is_odd_constant value.Null = false
is_odd_constant (value.Whole number) = false
is_odd_constant (value.Bit holds) = false

-- a text of a size that there is not
abbrev pub is_odd_found : Option Variable → Bool
is_odd_found None = false
is_odd_found (Some variable) = not (is_kind variable.kind)

module _ (vars : List Variable) where
  abbrev pub is_odd_at : Option ℕ → Bool
  is_odd_at None = false
  is_odd_at (Some place) = nat_le max_variables place || is_odd_found (slice_get vars place)

  -- its name is too long, it is beyond the limit, or it is a text of a size that there is not
  abbrev pub is_odd_variable : List ℕ → Bool
  is_odd_variable name = is_long name || is_odd_at (place_of name vars)

  abbrev pub is_maybe_odd_variable : Option (List ℕ) → Bool
  is_maybe_odd_variable None = false
  is_maybe_odd_variable (Some name) = is_odd_variable name

  abbrev pub is_odd_argument_value : ArgumentValue → Bool
  is_odd_argument_value (given.Constant a) = is_odd_constant a
  is_odd_argument_value (given.Variable name) = is_odd_variable name

  abbrev pub is_odd_argument : Argument → Bool
  is_odd_argument argument = is_maybe_long argument.name || is_odd_argument_value argument.value

  abbrev pub is_odd_declaration : Declaration → Bool
  is_odd_declaration of = is_odd_variable of.name || not (is_kind of.kind)

  abbrev pub is_odd_call : Option (List ℕ) → List ℕ → List Argument → Bool
  is_odd_call status procedure arguments = (is_maybe_odd_variable status || is_long procedure) || list_any is_odd_argument arguments

  -- something that a statement names beside its expressions is outside a limit
  abbrev pub names_outside : Layer → Bool
  names_outside (Form-F.Drop kind name) = is_long name
  names_outside (Form-F.Declare declarations) = list_any is_odd_declaration declarations
  names_outside (Form-F.SetVariable name expr) = is_odd_variable name
  names_outside (Form-F.BeginTransaction name) = is_maybe_long name
  names_outside (Form-F.Commit name) = is_maybe_long name
  names_outside (Form-F.Rollback name) = is_maybe_long name
  names_outside (Form-F.Save name) = is_long name
  names_outside (Form-F.DeclareCursor name select) = is_long name
  names_outside (Form-F.OpenCursor name) = is_long name
  names_outside (Form-F.Fetch name variables) = is_long name || list_any is_odd_variable variables
  names_outside (Form-F.CloseCursor name) = is_long name
  names_outside (Form-F.Deallocate name) = is_long name
  names_outside (Form-F.Use name) = is_long name
  names_outside (Form-F.Execute status name arguments) = is_odd_call status name arguments
  names_outside _ = false

-- ---- statements

-- a statement in which nothing is bound
abbrev pub plain_made : Bool → Made
plain_made beyond = record { bound = bound.Plain; beyond = beyond }

abbrev pub select_made : Selected → Made
select_made select = record {
  bound = if select.assigns then bound.Assign select.query select.places else bound.Query select.query;
  beyond = select.beyond;
}

abbrev pub maybe_expr : Option Expr → List Expr
maybe_expr None = []
maybe_expr (Some expr) = expr ∷ []

module _ (definitions : List Definition) (vars : List Variable) where
  abbrev pub made_by : Layer → Outcome Made
  made_by (Form-F.Select select) = after (query_of definitions vars select) (λ s. Ok (select_made s))
  made_by (Form-F.Insert table columns rows) = insert definitions vars table columns rows
  made_by (Form-F.Update table sets filter) = update definitions vars table sets filter
  made_by (Form-F.Delete table filter) = delete definitions vars table filter
  made_by (Form-F.CreateTable table text) = after (create_table definitions table) (λ beyond. Ok (plain_made beyond))
  made_by (Form-F.If test so otherwise) = test_query definitions vars test
  made_by (Form-F.While test body) = test_query definitions vars test
  made_by (Form-F.Print text) = values_query definitions vars (text ∷ [])
  made_by (Form-F.RaiseError text severity state) = three_query definitions vars text severity state
  made_by (Form-F.Return value) = values_query definitions vars (maybe_expr value)
  made_by (Form-F.Throw number text state) = three_query definitions vars number text state
  made_by (Form-F.Declare declarations) = values_query definitions vars (filter_map (λ of. of.initial) declarations)
  made_by (Form-F.SetVariable name value) = values_query definitions vars (value ∷ [])
  made_by _ = Ok (plain_made false)

  abbrev pub bind_form : Layer → Outcome Bound
  bind_form form = after (all_tables definitions (distinct_onto [] (table_names form))) (λ known.
      after (made_by form) (λ made. within_limits (made.beyond || names_outside vars form) made.bound))

  -- what a statement is bound to
  abbrev pub bind : Statement → Outcome Bound
  bind statement = bind_form (form_of statement)

-- what a table's CHECKs are bound to
abbrev pub bind_checks : TableTree → Outcome (List BoundTest)
bind_checks table = after (checks_of table) (λ checks. within_limits (is_beyond checks.1) checks.0)
