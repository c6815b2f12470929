-- Transact-SQL reference, "SET @local_variable", "DECLARE", "PRINT", "RAISERROR", "THROW", "RETURN", "IF" and
-- "WHILE": the expressions of such a statement are the items of a query that reads no table, and a test is the CASE
-- that gives 1 where it is true, else 0. No aggregate may stand there.
use Rattle.std.specs.Prelude.{pos, false, ◌==◌, if◌then◌else◌, List, [], ◌∷◌, ◌++◌, length, None, Ok}
use Rattle.session_vars.specs.declared.Variable.{Variable}
use Rattle.tsql_tree.specs.declared.definition.Definition.{Definition}
use Rattle.tsql_tree.specs.declared.query.Expr.{Expr}
use Rattle.tsql_tree.specs.declared.query.Test.{Test}
use Rattle.bound_tree.specs.declared.query.BoundQuery.{BoundQuery, roll-BoundQuery}
use Rattle.bound_tree.specs.declared.query.InnerQuery.{InnerQuery}
use Rattle.bound_tree.specs.declared.query.Item.{Item}
use Rattle.bound_tree.specs.declared.write.Bound.{Bound}
use Rattle.bound_tree.specs.declared.write.Bound.TheVariants as bound
use Rattle.typed_nodes.specs.declared.expr.TypedExpr.{TypedExpr}
use Rattle.typed_nodes.specs.declared.test.TypedTest.{TypedTest}
use Rattle.typed_nodes.specs.Nodes.{case_expr, number_expr}
use Rattle.typed_nodes.specs.Refusals.{Outcome, after}
use Rattle.clause_binder.specs.declared.progress.Progress.{Progress}
use Rattle.clause_binder.specs.Progress.{Binding, and_then, begin_at, beyond_where, is_deep, plain, pure}
use Rattle.clause_binder.specs.Clauses.{item_of}
use Rattle.clause_binder.specs.Bind.{expr_of, test_of}
use Rattle.binder.specs.declared.made.Made.{Made}
use Rattle.binder.specs.Limits.{made_of}

-- a query over no table, whose answer is one row
abbrev pub query_of_items : List Item → List InnerQuery → BoundQuery
query_of_items items inner = roll-BoundQuery (record {
  refs = [];
  filter = None;
  grouped = false;
  groups = [];
  sums = [];
  having = None;
  items = items;
  order = [];
  distinct = false;
  top = None;
  inner = inner;
})

-- without an expression there is nothing to bind
abbrev pub bound_items : List Item → List InnerQuery → Bound
bound_items items inner = if length items == 0 then bound.Plain else bound.Query (query_of_items items inner)

abbrev pub values_made : List Item → Progress → Made
values_made items done = made_of (bound_items items done.inner) done

-- ---- values

-- a further item, which has no name
abbrev pub with_value : List Item → TypedExpr → Progress → List Item × Progress
with_value before a done = (before ++ item_of [] a ∷ [], beyond_where (is_deep a.facts) done)

-- 1 where the test is true, else 0
abbrev pub one_or_zero : TypedTest → TypedExpr
one_or_zero test = case_expr (record { test = test; gives = number_expr (pos 1) } ∷ []) (number_expr (pos 0))

module _ (definitions : List Definition) (vars : List Variable) where
  abbrev pub value_onto : List Item → Expr → Binding (List Item)
  value_onto before expr at done = after ((expr_of definitions vars expr).read.bind at done) (λ a. Ok (with_value before a.0 a.1))

  abbrev pub values_onto : List Item → List Expr → Binding (List Item)
  values_onto before [] = pure before
  values_onto before (expr ∷ rest) = and_then (value_onto before expr) (λ items. values_onto items rest)

  abbrev pub values_query : List Expr → Outcome Made
  values_query exprs = after (values_onto [] exprs (plain []) (begin_at 0)) (λ r. Ok (values_made r.0 r.1))

  -- three expressions
  unfoldable pub three_query : Expr → Expr → Expr → Outcome Made
  three_query first second third = values_query (first ∷ second ∷ third ∷ [])

  abbrev pub test_onto : List Item → Test → Binding (List Item)
  test_onto before test at done = after ((test_of definitions vars test).bind at done) (λ a. Ok (with_value before (one_or_zero a.0) a.1))

  abbrev pub test_query : Test → Outcome Made
  test_query test = after (test_onto [] test (plain []) (begin_at 0)) (λ r. Ok (values_made r.0 r.1))
