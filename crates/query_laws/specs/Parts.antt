-- The laws of expressions and tests that stand by themselves, as writes, CHECKs and statements of expressions alone bind
-- them: they are well formed over the cells of their tables, the variables, the values of the session, and the inner
-- queries that are gathered by then, whatever is gathered later.
use Rattle.std.specs.Prelude.{◌≡◌, ◌≤◌, ◌++◌, true, false, List, map, length, None, Ok}
use Rattle.value_types.specs.declared.sql_type.SqlType.{SqlType}
use Rattle.session_vars.specs.declared.Variable.{Variable}
use Rattle.tsql_tree.specs.declared.definition.ColumnTree.{ColumnTree}
use Rattle.tsql_tree.specs.declared.definition.Definition.{Definition}
use Rattle.tsql_tree.specs.declared.query.Expr.{Expr}
use Rattle.tsql_tree.specs.declared.query.Test.{Test}
use Rattle.bound_tree.specs.declared.query.InnerQuery.{InnerQuery}
use Rattle.bound_tree.specs.Typed.{SettingTypes, is_formed, is_formed_test, system_kinds}
use Rattle.typed_nodes.specs.declared.expr.TypedExpr.{TypedExpr}
use Rattle.typed_nodes.specs.declared.test.TypedTest.{TypedTest}
use Rattle.typed_nodes.specs.Facts.{or_int}
use Rattle.typed_nodes.specs.Nodes.{is_kind}
use Rattle.clause_binder.specs.declared.progress.Progress.{Progress}
use Rattle.clause_binder.specs.Scope.{TableSource, columns_in, max_columns, max_name}
use Rattle.clause_binder.specs.Progress.{Context, is_deep}
use Rattle.clause_binder.specs.Bind.{expr_of, test_of}
use Rattle.query_laws.specs.Formed.{inner_found}
use Rattle.query_laws.specs.Columns.{kinds, tables_in, variable_kinds}
use Rattle.query_laws.specs.Laws.{AllOf}

-- a column that a table may have
abbrev pub IsSound : ColumnTree → Type 0
IsSound column = (is_kind column.kind ≡ true) × (length column.name ≤ max_name)

-- tables that there may be
abbrev pub AreSound : List TableSource → Type 0
AreSound sources = AllOf (λ source. (length source.columns ≤ max_columns) × AllOf IsSound source.columns) sources

module _ (definitions : List Definition) (vars : List Variable) where
  -- the types of the items of inner queries
  abbrev pub inner_kinds : List InnerQuery → List (List SqlType)
  inner_kinds inner = map (λ q. (inner_found (tables_in definitions) (variable_kinds vars) q).1) inner

  -- what may be read where no aggregate stands: behind the inner queries of other clauses those that are gathered, and more
  abbrev pub types_behind : Context → Progress → List (List SqlType) → List (List SqlType) → SettingTypes
  types_behind at done before more = record {
    row = kinds (columns_in at.sources);
    vars = variable_kinds vars;
    system = system_kinds;
    inner = before ++ (inner_kinds done.inner ++ more);
  }

-- an expression, unless something is outside a limit
abbrev pub ExprFormed : Type 0
ExprFormed = (definitions : List Definition) (vars : List Variable) (expr : Expr) (at : Context) (done new : Progress) (a : TypedExpr) → (expr_of definitions vars expr).read.bind at done ≡ Ok (a, new)
    → new.beyond ≡ false → is_deep a.facts ≡ false → at.sums_from ≡ None → AreSound at.sources
    → (before more : List (List SqlType)) → length before ≡ new.first → is_formed (types_behind definitions vars at new before more) a.expr (or_int a.facts.kind) ≡ true

-- so a test
abbrev pub TestFormed : Type 0
TestFormed = (definitions : List Definition) (vars : List Variable) (test : Test) (at : Context) (done new : Progress) (a : TypedTest) → (test_of definitions vars test).bind at done ≡ Ok (a, new)
    → new.beyond ≡ false → is_deep a.facts ≡ false → at.sums_from ≡ None → AreSound at.sources
    → (before more : List (List SqlType)) → length before ≡ new.first → is_formed_test (types_behind definitions vars at new before more) a.test ≡ true
