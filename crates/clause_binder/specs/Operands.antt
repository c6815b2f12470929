-- Transact-SQL reference, "Column name", "Variables", "Subqueries" and "Aggregate functions": what names, inner
-- queries and aggregates are bound to. An inner query as a value has one item; an aggregate stands where classes
-- are made, and in no other aggregate.
use Rattle.std.specs.Prelude.{ℕ, suc, ◌+◌, Bool, true, false, ◌||◌, not, nat_le, min, if◌then◌else◌, List, [], ◌∷◌, ◌++◌, ◌==◌, length, slice_get, codes, Option, Some, None, Ok, Err}
use Rattle.value_types.specs.declared.sql_type.SqlType.{SqlType}
use Rattle.value_types.specs.declared.sql_type.SqlType.TheVariants.{TinyInt, SmallInt, Int, BigInt, Bit as BitType, NText}
use Rattle.session_vars.specs.declared.Variable.{Variable}
use Rattle.session_vars.specs.Variables.{place_of}
use Rattle.tsql_tree.specs.declared.query.Aggregate.{Aggregate}
use Rattle.tsql_tree.specs.declared.query.Aggregate.TheVariants as of
use Rattle.tsql_tree.specs.declared.query.SystemWord.{SystemWord}
use Rattle.tsql_tree.specs.declared.query.SystemWord.TheVariants as word
use Rattle.tsql_tree.specs.Places.{max_place}
use Rattle.bound_tree.specs.declared.expr.BoundExpr.{BoundExpr}
use Rattle.bound_tree.specs.declared.expr.BoundExpr.TheVariants as bound
use Rattle.bound_tree.specs.declared.expr.BoundTest.TheVariants as test
use Rattle.bound_tree.specs.declared.query.BoundQuery.{BoundQuery, out-BoundQuery}
use Rattle.bound_tree.specs.declared.query.InnerQuery.{roll-InnerQuery}
use Rattle.bound_tree.specs.declared.query.Item.{Item}
use Rattle.bound_tree.specs.declared.query.Sum.{Sum}
use Rattle.bound_tree.specs.declared.query.SumKind.{SumKind}
use Rattle.bound_tree.specs.declared.query.SumKind.TheVariants.{CountRows, Count, Sum as Total, Avg, Min, Max}
use Rattle.bound_tree.specs.declared.system.SystemValue.{SystemValue}
use Rattle.bound_tree.specs.declared.system.SystemValue.TheVariants as system
use Rattle.typed_nodes.specs.declared.expr.TypedExpr.{TypedExpr}
use Rattle.typed_nodes.specs.declared.test.TypedTest.{TypedTest}
use Rattle.typed_nodes.specs.Facts.{alone, no_facts, or_int, outside}
use Rattle.typed_nodes.specs.Nodes.{is_kind, leaf, null, with_facts}
use Rattle.typed_nodes.specs.Tests.{in_query_test, test_node}
use Rattle.typed_nodes.specs.Refusals.{Outcome, after, operand_not_allowed, unnamed}
use Rattle.clause_binder.specs.Scope.{column_of, behind, is_long, max_inner, max_variables, several_items, syntax_error, undeclared_variable}
use Rattle.clause_binder.specs.declared.scope.Found.{Found}
use Rattle.clause_binder.specs.declared.operand.Selected.{Selected}
use Rattle.clause_binder.specs.declared.progress.Progress.{Progress}
use Rattle.clause_binder.specs.Progress.{Binding, Context, beyond_where, given, is_deep}
use Rattle.clause_binder.specs.Server.{database_name, max_precision, name_size, schema_name, server_name, server_text, user_name, version_size, version_text}

-- ---- places

-- something outside a limit, of this type
abbrev pub left_out : Option SqlType → TypedExpr
left_out kind = with_facts (outside (alone kind)) null

-- what stands at a place, where a tree can name it
abbrev pub placed : ℕ → SqlType → (ℕ → BoundExpr) → TypedExpr
placed place kind make = if nat_le place max_place then leaf kind (make place) else left_out (Some kind)

-- ---- columns

-- a column is in no GROUP BY until it is found there
abbrev pub loose_at : ℕ → TypedExpr → TypedExpr
loose_at place a = record a { facts = record a.facts { loose = if nat_le place max_place then Some place else None } }

abbrev pub cell : Found → TypedExpr
cell found = loose_at found.place (placed found.place found.kind bound.Cell)

abbrev pub column_in : Option (List ℕ) → List ℕ → Context → Outcome TypedExpr
column_in qualifier name at = after (column_of qualifier name at.sources) (λ found. Ok (cell found))

abbrev pub column : Option (List ℕ) → List ℕ → Binding TypedExpr
column qualifier name at done = given (column_in qualifier name at) at done

-- ---- values of the session, and of the server

-- XACT_STATE() is a SMALLINT, the message and the procedure are texts, and all else is INT
abbrev pub system_kind : SystemValue → SqlType
system_kind system.TranCount = Int
system_kind system.Error = Int
system_kind system.RowCount = Int
system_kind system.FetchStatus = Int
system_kind system.XactState = SmallInt
system_kind system.ErrorNumber = Int
system_kind system.ErrorSeverity = Int
system_kind system.ErrorState = Int
system_kind system.ErrorLine = Int
system_kind system.ErrorMessage = NText 4000
system_kind system.ErrorProcedure = NText 128

abbrev pub session_value : SystemValue → TypedExpr
session_value of = leaf (system_kind of) (bound.System of)

-- what a word for a value is bound to
abbrev pub system_node : SystemWord → TypedExpr
system_node word.TranCount = session_value system.TranCount
system_node word.Error = session_value system.Error
system_node word.RowCount = session_value system.RowCount
system_node word.FetchStatus = session_value system.FetchStatus
system_node word.XactState = session_value system.XactState
system_node word.ErrorNumber = session_value system.ErrorNumber
system_node word.ErrorSeverity = session_value system.ErrorSeverity
system_node word.ErrorState = session_value system.ErrorState
system_node word.ErrorLine = session_value system.ErrorLine
system_node word.ErrorMessage = session_value system.ErrorMessage
system_node word.ErrorProcedure = session_value system.ErrorProcedure
system_node word.Version = server_text version_size version_text
system_node word.ServerName = server_text name_size server_name
system_node word.MaxPrecision = max_precision
system_node word.SchemaName = server_text name_size schema_name
system_node word.DatabaseName = server_text name_size database_name
system_node word.UserName = server_text name_size user_name

abbrev pub system_at : Context → SystemWord → TypedExpr
system_at at word = if at.row_alone then left_out (system_node word).facts.kind else system_node word

abbrev pub system_expr : SystemWord → Binding TypedExpr
system_expr word at done = Ok (system_at at word, done)

-- ---- variables

-- a name that is too long, a variable beyond the limit, and a text of a size that there is not, are outside the limits
abbrev pub variable_of_kind : List ℕ → ℕ → SqlType → TypedExpr
variable_of_kind name place kind = if (is_long name || nat_le max_variables place) || not (is_kind kind) then left_out (Some kind) else leaf kind (bound.Variable place)

module _ (vars : List Variable) where
  abbrev pub variable_at : List ℕ → ℕ → Option Variable → TypedExpr
  variable_at name place None = left_out None
  variable_at name place (Some variable) = variable_of_kind name place variable.kind

  abbrev pub variable_from : List ℕ → Option ℕ → Outcome TypedExpr
  variable_from name None = Err (undeclared_variable, name)
  variable_from name (Some place) = Ok (variable_at name place (slice_get vars place))

  abbrev pub variable_of : List ℕ → Outcome TypedExpr
  variable_of name = variable_from name (place_of name vars)

  abbrev pub variable_in : Context → List ℕ → Outcome TypedExpr
  variable_in at name = if at.row_alone then Ok (left_out None) else variable_of name

  abbrev pub variable : List ℕ → Binding TypedExpr
  variable name at done = given (variable_in at name) at done

-- ---- inner queries

abbrev pub items_of : BoundQuery → List Item
items_of query = (out-BoundQuery query).items

-- only a select that is a statement assigns variables; of no item is one whose `*` stands for no column
abbrev pub with_inner : Selected → Bool → Progress → Progress
with_inner select single done = record done {
  inner = done.inner ++ roll-InnerQuery (record { query = select.query; single = single }) ∷ [];
  count = min (suc max_inner) (done.count + suc select.count);
  beyond = ((done.beyond || select.beyond) || select.assigns) || length (items_of select.query) == 0;
}

abbrev pub inner_place : Progress → ℕ
inner_place done = behind done.first (length done.inner)

-- the type of the one item; a `*` without a table gives none, and is refused in the end
abbrev pub only_kind : List Item → Outcome SqlType
only_kind [] = Ok Int
only_kind (item ∷ []) = Ok item.kind
only_kind (item ∷ other ∷ rest) = unnamed several_items

abbrev pub scalar_from : Selected → Progress → SqlType → Outcome (TypedExpr × Progress)
scalar_from select done kind = Ok (placed (inner_place done) kind bound.Scalar, with_inner select true done)

abbrev pub scalar_with : Selected → Progress → Outcome (TypedExpr × Progress)
scalar_with select done = after (only_kind (items_of select.query)) (scalar_from select done)

abbrev pub scalar : Outcome Selected → Binding TypedExpr
scalar select at done = if at.row_alone then Ok (left_out None, done) else after select (λ s. scalar_with s done)

abbrev pub test_left_out : TypedTest
test_left_out = test_node (outside no_facts) (test.IsNull null)

-- a test at a place, where a tree can name it
abbrev pub test_placed : ℕ → TypedTest → TypedTest
test_placed place of = if nat_le place max_place then of else test_left_out

abbrev pub exists_at : ℕ → TypedTest
exists_at place = test_placed place (test_node no_facts (test.Exists place))

abbrev pub exists_from : Selected → Progress → TypedTest × Progress
exists_from select done = (exists_at (inner_place done), with_inner select false done)

abbrev pub exists : Outcome Selected → Binding TypedTest
exists select at done = if at.row_alone then Ok (test_left_out, done) else after select (λ s. Ok (exists_from s done))

abbrev pub in_query_from : TypedExpr → Selected → Progress → SqlType → Outcome (TypedTest × Progress)
in_query_from a select done kind = Ok (test_placed (inner_place done) (in_query_test a kind (inner_place done)), with_inner select false done)

abbrev pub in_query_with : TypedExpr → Selected → Progress → Outcome (TypedTest × Progress)
in_query_with a select done = after (only_kind (items_of select.query)) (in_query_from a select done)

abbrev pub in_query : Outcome Selected → TypedExpr → Binding TypedTest
in_query select a at done = if at.row_alone then Ok (test_left_out, done) else after select (λ s. in_query_with a s done)

-- ---- aggregates

abbrev pub word_of : Aggregate → List ℕ
word_of of.Count = codes "COUNT"
word_of of.Sum = codes "SUM"
word_of of.Avg = codes "AVG"
word_of of.Min = codes "MIN"
word_of of.Max = codes "MAX"

abbrev pub sum_kind : Aggregate → SumKind
sum_kind of.Count = Count
sum_kind of.Sum = Total
sum_kind of.Avg = Avg
sum_kind of.Min = Min
sum_kind of.Max = Max

-- the type of a total: INT of types up to INT, and BIGINT
abbrev pub total_kind : SqlType → Outcome SqlType
total_kind TinyInt = Ok Int
total_kind SmallInt = Ok Int
total_kind Int = Ok Int
total_kind BigInt = Ok BigInt
total_kind BitType = unnamed operand_not_allowed
total_kind (NText size) = unnamed operand_not_allowed

-- the type of the least or greatest: the operand's, but not of bits
abbrev pub extreme_kind : SqlType → Outcome SqlType
extreme_kind TinyInt = Ok TinyInt
extreme_kind SmallInt = Ok SmallInt
extreme_kind Int = Ok Int
extreme_kind BigInt = Ok BigInt
extreme_kind BitType = unnamed operand_not_allowed
extreme_kind (NText size) = Ok (NText size)

abbrev pub aggregate_kind : Aggregate → SqlType → Outcome SqlType
aggregate_kind of.Count kind = Ok Int
aggregate_kind of.Sum kind = total_kind kind
aggregate_kind of.Avg kind = total_kind kind
aggregate_kind of.Min kind = extreme_kind kind
aggregate_kind of.Max kind = extreme_kind kind

-- an aggregate is a cell of the class's row, behind its columns
abbrev pub add_sum : ℕ → Sum → Progress → TypedExpr × Progress
add_sum from sum done = (placed (behind from (length done.sums)) sum.to bound.Cell, record done { sums = done.sums ++ sum ∷ [] })

abbrev pub sum_of : Aggregate → Bool → ℕ → TypedExpr → Progress → SqlType → Outcome (TypedExpr × Progress)
sum_of agg distinct from a done to = Ok (add_sum from (record { kind = sum_kind agg; distinct = distinct; of = Some a.expr; to = to }) (beyond_where (is_deep a.facts) done))

abbrev pub sum_with : Aggregate → Bool → ℕ → TypedExpr → Progress → Outcome (TypedExpr × Progress)
sum_with agg distinct from a done = after (aggregate_kind agg (or_int a.facts.kind)) (sum_of agg distinct from a done)

abbrev pub within_sum : Context → Context
within_sum at = record at { groups = []; sums_from = None }

abbrev pub aggregate_from : Option ℕ → Aggregate → Bool → Binding TypedExpr → Binding TypedExpr
aggregate_from None agg distinct a at done = Err (syntax_error, word_of agg)
aggregate_from (Some from) agg distinct a at done = after (a (within_sum at) done) (λ r. sum_with agg distinct from r.0 r.1)

abbrev pub aggregate : Aggregate → Bool → Binding TypedExpr → Binding TypedExpr
aggregate agg distinct a at done = aggregate_from at.sums_from agg distinct a at done

abbrev pub count_rows_from : Option ℕ → Progress → Outcome (TypedExpr × Progress)
count_rows_from None done = Err (syntax_error, codes "COUNT")
count_rows_from (Some from) done = Ok (add_sum from (record { kind = CountRows; distinct = false; of = None; to = Int }) done)

abbrev pub count_rows : Binding TypedExpr
count_rows at done = count_rows_from at.sums_from done
