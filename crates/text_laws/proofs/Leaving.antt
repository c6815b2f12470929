-- What is bound over a row alone and is not too deep leaves no row, nor does a table whose CREATE TABLE is bound.
use Rattle.std.specs.Prelude.{◌≡◌, ℕ, ◌≤◌, Bool, true, false, ◌||◌, nat_lt, List, [], ◌∷◌, ◌++◌, map, Some, None, Ok, Err, refl}
use Rattle.std.proofs.Common.{ap, sym, ◌∙◌, subst, arith}
use Rattle.std.proofs.lemmas.Bool.Decides.{nat_tests}
use Rattle.value_types.specs.declared.sql_type.SqlType.TheVariants.{Int}
use Rattle.session_vars.specs.declared.Variable.{Variable}
use Rattle.tsql_tree.specs.declared.definition.CheckTree.{CheckTree}
use Rattle.tsql_tree.specs.declared.definition.Definition.{Definition}
use Rattle.tsql_tree.specs.declared.definition.TableTree.{TableTree}
use Rattle.tsql_tree.specs.declared.statement.Form.{Form-F}
use Rattle.tsql_tree.specs.declared.statement.Statement.{Statement}
use Rattle.tsql_tree.specs.declared.query.Expr.{Expr}
use Rattle.tsql_tree.specs.declared.query.Item.{Item}
use Rattle.tsql_tree.specs.declared.query.Join.{Join}
use Rattle.tsql_tree.specs.declared.query.Test.{Test}
use Rattle.tsql_tree.specs.declared.query.Arm.{Arm}
use Rattle.tsql_tree.specs.declared.query.Factor.{Factor}
use Rattle.tsql_tree.specs.declared.query.FromClause.{FromClause}
use Rattle.tsql_tree.specs.declared.query.OrderItem.{OrderItem}
use Rattle.tsql_tree.specs.declared.query.Select.{Select}
use Rattle.tsql_tree.specs.declared.query.Term.{Term}
use Rattle.tsql_tree.specs.declared.query.Expr.TheOpen.{Expr-F, Test-F, Arm-F, Factor-F, Term-F}
use Rattle.tsql_tree.specs.declared.query.Expr.TheFolds.{fold-Item, fold-Join, fold-FromClause, fold-OrderItem, fold-Select, ind-Test, map-Expr, map-Test, map-Arm, map-Factor, map-Term, fold-roll-Expr, fold-roll-Test, fold-roll-Arm, fold-roll-Factor, fold-roll-Term}
use Rattle.tsql_tree.specs.declared.query.Expr.TheViews.{roll-Expr, roll-Test, roll-Arm, roll-Factor, roll-Term}
use Rattle.bound_tree.specs.declared.expr.BoundTest.{BoundTest}
use Rattle.bound_tree.specs.declared.write.Bound.{Bound}
use Rattle.typed_nodes.specs.declared.test.Junction.TheVariants as by
use Rattle.typed_nodes.specs.declared.expr.TypedArm.{TypedArm}
use Rattle.typed_nodes.specs.declared.expr.TypedExpr.{TypedExpr}
use Rattle.typed_nodes.specs.declared.test.TypedTest.{TypedTest}
use Rattle.typed_nodes.specs.Refusals.{Outcome, after}
use Rattle.typed_nodes.specs.Facts.{above, beside, max_depth, no_facts}
use Rattle.typed_nodes.specs.Nodes as node
use Rattle.typed_nodes.specs.Tests as tests
use Rattle.clause_binder.specs.declared.operand.Selected.{Selected}
use Rattle.clause_binder.specs.declared.progress.Progress.{Progress}
use Rattle.clause_binder.specs.Progress.{Context, Read, and_then, begin_at, beyond_where, each_read, is_deep, pure}
use Rattle.clause_binder.specs.Operands as operand
use Rattle.clause_binder.specs.Clauses.{ExprRead, FromRead, ItemRead, JoinRead, OrderRead, noted_test}
use Rattle.clause_binder.specs.Bind as bind
use Rattle.clause_binder.specs.Bind.{TermRead, expr_of, item_of, join_of, test_of, arm_of, factor_of, from_of, order_of, query_of, term_of, expr_step, item_step, join_step, test_step, arm_step, factor_step, from_step, order_step, select_step, term_step, read_of}
use Rattle.table_names.specs.Contents.{distinct_onto}
use Rattle.binder.specs.declared.made.Made.{Made}
use Rattle.binder.specs.Names.{Layer, all_tables, form_of, table_names}
use Rattle.binder.specs.Limits.{is_beyond, within_limits}
use Rattle.binder.specs.Statements.{bind_form, plain_made}
use Rattle.binder.specs.Tables.{all_foreigns, all_keys, checks_of, checks_onto, create_table, is_odd_table, row_context}
use Rattle.batch_meaning.specs.Selecting.{bound_as}
use Rattle.text_laws.specs.Laws.{StaysAs, CreatedStays}
use Rattle.text_laws.specs.Rows as row
use Rattle.text_laws.specs.Rows.{some_of, table_leaves}
use Rattle.text_laws.proofs.RowAlone.{AllStay, ArmTold, Beside, ExprTold, RowAlone, StayArm, StayExpr, StayTest, TermTold, TestTold, Told, aggregate_tells, case_tells, chain_tells, column_tells, count_tells, exists_tells, exprs_stay, exprs_tell, in_query_tells, joined_tell, limited_stays, negated_stays, none_first, none_second, none_two, one_tells, scalar_tells, signed_tells, stays_above, stays_beside, stays_test, tells_pure, tells_settle, tells_then, two_tell, variable_tells}

-- ---- trees

abbrev item_leaves : Item → Bool
item_leaves = fold-Item Bool Bool Bool Bool Bool Bool Bool Bool Bool Bool row.expr_step row.item_step row.join_step row.test_step row.arm_step row.factor_step row.from_step row.order_step row.select_step row.term_step

abbrev join_leaves : Join → Bool
join_leaves = fold-Join Bool Bool Bool Bool Bool Bool Bool Bool Bool Bool row.expr_step row.item_step row.join_step row.test_step row.arm_step row.factor_step row.from_step row.order_step row.select_step row.term_step

abbrev from_leaves : FromClause → Bool
from_leaves = fold-FromClause Bool Bool Bool Bool Bool Bool Bool Bool Bool Bool row.expr_step row.item_step row.join_step row.test_step row.arm_step row.factor_step row.from_step row.order_step row.select_step row.term_step

abbrev order_leaves : OrderItem → Bool
order_leaves = fold-OrderItem Bool Bool Bool Bool Bool Bool Bool Bool Bool Bool row.expr_step row.item_step row.join_step row.test_step row.arm_step row.factor_step row.from_step row.order_step row.select_step row.term_step

abbrev select_leaves : Select → Bool
select_leaves = fold-Select Bool Bool Bool Bool Bool Bool Bool Bool Bool Bool row.expr_step row.item_step row.join_step row.test_step row.arm_step row.factor_step row.from_step row.order_step row.select_step row.term_step

module _ (definitions : List Definition) (vars : List Variable) where
  abbrev PExpr : Expr → Type 0
  PExpr x = ExprTold (row.expr_leaves x) (expr_of definitions vars x)

  abbrev PTest : Test → Type 0
  PTest x = TestTold (row.test_leaves x) (test_of definitions vars x)

  abbrev PArm : Arm → Type 0
  PArm x = ArmTold (row.arm_leaves x) (arm_of definitions vars x)

  abbrev PFactor : Factor → Type 0
  PFactor x = TermTold (row.factor_leaves x) (factor_of definitions vars x)

  abbrev PTerm : Term → Type 0
  PTerm x = TermTold (row.term_leaves x) (term_of definitions vars x)

  abbrev PItem : Item → Type 0
  PItem x = Unit {0}

  abbrev PJoin : Join → Type 0
  PJoin x = Unit {0}

  abbrev PFromClause : FromClause → Type 0
  PFromClause x = Unit {0}

  abbrev POrderItem : OrderItem → Type 0
  POrderItem x = Unit {0}

  abbrev PSelect : Select → Type 0
  PSelect x = Unit {0}

  -- a layer of trees, and what is told of those in it
  abbrev ExprBelow : Type 0
  ExprBelow = Expr-F ((x : Expr) × PExpr x) ((x : Item) × PItem x) ((x : Join) × PJoin x) ((x : Test) × PTest x) ((x : Arm) × PArm x) ((x : Factor) × PFactor x) ((x : FromClause) × PFromClause x) ((x : OrderItem) × POrderItem x) ((x : Select) × PSelect x) ((x : Term) × PTerm x)

  abbrev trees_of_Expr : ExprBelow → Expr-F Expr Item Join Test Arm Factor FromClause OrderItem Select Term
  trees_of_Expr = map-Expr _ _ _ _ _ _ _ _ _ _ Expr Item Join Test Arm Factor FromClause OrderItem Select Term (λ p. p.0) (λ p. p.0) (λ p. p.0) (λ p. p.0) (λ p. p.0) (λ p. p.0) (λ p. p.0) (λ p. p.0) (λ p. p.0) (λ p. p.0)

  abbrev reads_of_Expr : Expr-F Expr Item Join Test Arm Factor FromClause OrderItem Select Term → Expr-F ExprRead ItemRead JoinRead (Read TypedTest) (Read TypedArm) TermRead FromRead OrderRead (Outcome Selected) TermRead
  reads_of_Expr = map-Expr _ _ _ _ _ _ _ _ _ _ ExprRead ItemRead JoinRead (Read TypedTest) (Read TypedArm) TermRead FromRead OrderRead (Outcome Selected) TermRead (expr_of definitions vars) (item_of definitions vars) (join_of definitions vars) (test_of definitions vars) (arm_of definitions vars) (factor_of definitions vars) (from_of definitions vars) (order_of definitions vars) (query_of definitions vars) (term_of definitions vars)

  abbrev leaves_of_Expr : Expr-F Expr Item Join Test Arm Factor FromClause OrderItem Select Term → Expr-F Bool Bool Bool Bool Bool Bool Bool Bool Bool Bool
  leaves_of_Expr = map-Expr _ _ _ _ _ _ _ _ _ _ Bool Bool Bool Bool Bool Bool Bool Bool Bool Bool row.expr_leaves item_leaves join_leaves row.test_leaves row.arm_leaves row.factor_leaves from_leaves order_leaves select_leaves row.term_leaves

  abbrev TestBelow : Type 0
  TestBelow = Test-F ((x : Expr) × PExpr x) ((x : Item) × PItem x) ((x : Join) × PJoin x) ((x : Test) × PTest x) ((x : Arm) × PArm x) ((x : Factor) × PFactor x) ((x : FromClause) × PFromClause x) ((x : OrderItem) × POrderItem x) ((x : Select) × PSelect x) ((x : Term) × PTerm x)

  abbrev trees_of_Test : TestBelow → Test-F Expr Item Join Test Arm Factor FromClause OrderItem Select Term
  trees_of_Test = map-Test _ _ _ _ _ _ _ _ _ _ Expr Item Join Test Arm Factor FromClause OrderItem Select Term (λ p. p.0) (λ p. p.0) (λ p. p.0) (λ p. p.0) (λ p. p.0) (λ p. p.0) (λ p. p.0) (λ p. p.0) (λ p. p.0) (λ p. p.0)

  abbrev reads_of_Test : Test-F Expr Item Join Test Arm Factor FromClause OrderItem Select Term → Test-F ExprRead ItemRead JoinRead (Read TypedTest) (Read TypedArm) TermRead FromRead OrderRead (Outcome Selected) TermRead
  reads_of_Test = map-Test _ _ _ _ _ _ _ _ _ _ ExprRead ItemRead JoinRead (Read TypedTest) (Read TypedArm) TermRead FromRead OrderRead (Outcome Selected) TermRead (expr_of definitions vars) (item_of definitions vars) (join_of definitions vars) (test_of definitions vars) (arm_of definitions vars) (factor_of definitions vars) (from_of definitions vars) (order_of definitions vars) (query_of definitions vars) (term_of definitions vars)

  abbrev leaves_of_Test : Test-F Expr Item Join Test Arm Factor FromClause OrderItem Select Term → Test-F Bool Bool Bool Bool Bool Bool Bool Bool Bool Bool
  leaves_of_Test = map-Test _ _ _ _ _ _ _ _ _ _ Bool Bool Bool Bool Bool Bool Bool Bool Bool Bool row.expr_leaves item_leaves join_leaves row.test_leaves row.arm_leaves row.factor_leaves from_leaves order_leaves select_leaves row.term_leaves

  abbrev ArmBelow : Type 0
  ArmBelow = Arm-F ((x : Expr) × PExpr x) ((x : Item) × PItem x) ((x : Join) × PJoin x) ((x : Test) × PTest x) ((x : Arm) × PArm x) ((x : Factor) × PFactor x) ((x : FromClause) × PFromClause x) ((x : OrderItem) × POrderItem x) ((x : Select) × PSelect x) ((x : Term) × PTerm x)

  abbrev trees_of_Arm : ArmBelow → Arm-F Expr Item Join Test Arm Factor FromClause OrderItem Select Term
  trees_of_Arm = map-Arm _ _ _ _ _ _ _ _ _ _ Expr Item Join Test Arm Factor FromClause OrderItem Select Term (λ p. p.0) (λ p. p.0) (λ p. p.0) (λ p. p.0) (λ p. p.0) (λ p. p.0) (λ p. p.0) (λ p. p.0) (λ p. p.0) (λ p. p.0)

  abbrev reads_of_Arm : Arm-F Expr Item Join Test Arm Factor FromClause OrderItem Select Term → Arm-F ExprRead ItemRead JoinRead (Read TypedTest) (Read TypedArm) TermRead FromRead OrderRead (Outcome Selected) TermRead
  reads_of_Arm = map-Arm _ _ _ _ _ _ _ _ _ _ ExprRead ItemRead JoinRead (Read TypedTest) (Read TypedArm) TermRead FromRead OrderRead (Outcome Selected) TermRead (expr_of definitions vars) (item_of definitions vars) (join_of definitions vars) (test_of definitions vars) (arm_of definitions vars) (factor_of definitions vars) (from_of definitions vars) (order_of definitions vars) (query_of definitions vars) (term_of definitions vars)

  abbrev leaves_of_Arm : Arm-F Expr Item Join Test Arm Factor FromClause OrderItem Select Term → Arm-F Bool Bool Bool Bool Bool Bool Bool Bool Bool Bool
  leaves_of_Arm = map-Arm _ _ _ _ _ _ _ _ _ _ Bool Bool Bool Bool Bool Bool Bool Bool Bool Bool row.expr_leaves item_leaves join_leaves row.test_leaves row.arm_leaves row.factor_leaves from_leaves order_leaves select_leaves row.term_leaves

  abbrev FactorBelow : Type 0
  FactorBelow = Factor-F ((x : Expr) × PExpr x) ((x : Item) × PItem x) ((x : Join) × PJoin x) ((x : Test) × PTest x) ((x : Arm) × PArm x) ((x : Factor) × PFactor x) ((x : FromClause) × PFromClause x) ((x : OrderItem) × POrderItem x) ((x : Select) × PSelect x) ((x : Term) × PTerm x)

  abbrev trees_of_Factor : FactorBelow → Factor-F Expr Item Join Test Arm Factor FromClause OrderItem Select Term
  trees_of_Factor = map-Factor _ _ _ _ _ _ _ _ _ _ Expr Item Join Test Arm Factor FromClause OrderItem Select Term (λ p. p.0) (λ p. p.0) (λ p. p.0) (λ p. p.0) (λ p. p.0) (λ p. p.0) (λ p. p.0) (λ p. p.0) (λ p. p.0) (λ p. p.0)

  abbrev reads_of_Factor : Factor-F Expr Item Join Test Arm Factor FromClause OrderItem Select Term → Factor-F ExprRead ItemRead JoinRead (Read TypedTest) (Read TypedArm) TermRead FromRead OrderRead (Outcome Selected) TermRead
  reads_of_Factor = map-Factor _ _ _ _ _ _ _ _ _ _ ExprRead ItemRead JoinRead (Read TypedTest) (Read TypedArm) TermRead FromRead OrderRead (Outcome Selected) TermRead (expr_of definitions vars) (item_of definitions vars) (join_of definitions vars) (test_of definitions vars) (arm_of definitions vars) (factor_of definitions vars) (from_of definitions vars) (order_of definitions vars) (query_of definitions vars) (term_of definitions vars)

  abbrev leaves_of_Factor : Factor-F Expr Item Join Test Arm Factor FromClause OrderItem Select Term → Factor-F Bool Bool Bool Bool Bool Bool Bool Bool Bool Bool
  leaves_of_Factor = map-Factor _ _ _ _ _ _ _ _ _ _ Bool Bool Bool Bool Bool Bool Bool Bool Bool Bool row.expr_leaves item_leaves join_leaves row.test_leaves row.arm_leaves row.factor_leaves from_leaves order_leaves select_leaves row.term_leaves

  abbrev TermBelow : Type 0
  TermBelow = Term-F ((x : Expr) × PExpr x) ((x : Item) × PItem x) ((x : Join) × PJoin x) ((x : Test) × PTest x) ((x : Arm) × PArm x) ((x : Factor) × PFactor x) ((x : FromClause) × PFromClause x) ((x : OrderItem) × POrderItem x) ((x : Select) × PSelect x) ((x : Term) × PTerm x)

  abbrev trees_of_Term : TermBelow → Term-F Expr Item Join Test Arm Factor FromClause OrderItem Select Term
  trees_of_Term = map-Term _ _ _ _ _ _ _ _ _ _ Expr Item Join Test Arm Factor FromClause OrderItem Select Term (λ p. p.0) (λ p. p.0) (λ p. p.0) (λ p. p.0) (λ p. p.0) (λ p. p.0) (λ p. p.0) (λ p. p.0) (λ p. p.0) (λ p. p.0)

  abbrev reads_of_Term : Term-F Expr Item Join Test Arm Factor FromClause OrderItem Select Term → Term-F ExprRead ItemRead JoinRead (Read TypedTest) (Read TypedArm) TermRead FromRead OrderRead (Outcome Selected) TermRead
  reads_of_Term = map-Term _ _ _ _ _ _ _ _ _ _ ExprRead ItemRead JoinRead (Read TypedTest) (Read TypedArm) TermRead FromRead OrderRead (Outcome Selected) TermRead (expr_of definitions vars) (item_of definitions vars) (join_of definitions vars) (test_of definitions vars) (arm_of definitions vars) (factor_of definitions vars) (from_of definitions vars) (order_of definitions vars) (query_of definitions vars) (term_of definitions vars)

  abbrev leaves_of_Term : Term-F Expr Item Join Test Arm Factor FromClause OrderItem Select Term → Term-F Bool Bool Bool Bool Bool Bool Bool Bool Bool Bool
  leaves_of_Term = map-Term _ _ _ _ _ _ _ _ _ _ Bool Bool Bool Bool Bool Bool Bool Bool Bool Bool row.expr_leaves item_leaves join_leaves row.test_leaves row.arm_leaves row.factor_leaves from_leaves order_leaves select_leaves row.term_leaves

  -- what is told of each of a list
  each_told : {A B : Type 0} (leaves : A → Bool) (read : A → B) (R : Bool → B → Type 0) (items : List ((x : A) × R (leaves x) (read x))) → Beside R (map leaves (map (λ p. p.0) items)) (map read (map (λ p. p.0) items))
  each_told leaves read R [] = tt
  each_told leaves read R (p ∷ rest) = (p.1, each_told leaves read R rest)

  -- ---- nodes

  expr_told : (y : ExprBelow) → ExprTold (row.expr_step (leaves_of_Expr (trees_of_Expr y))) (expr_step definitions vars (reads_of_Expr (trees_of_Expr y)))
  expr_told (Expr-F.Number n) = (tells_settle false (pure (bind.literal n)) (tells_pure (StayExpr false) (bind.literal n) (λ le. refl)), refl)
  expr_told (Expr-F.Text units) = (tells_settle false (pure (node.text_expr units)) (tells_pure (StayExpr false) (node.text_expr units) (λ le. refl)), tt)
  expr_told Expr-F.Null = (tells_settle false (pure node.lone_null) (tells_pure (StayExpr false) node.lone_null (λ le. refl)), refl)
  expr_told (Expr-F.Variable name) = (tells_settle true (operand.variable vars name) (variable_tells vars name), tt)
  expr_told (Expr-F.System word) = (tells_settle false (operand.system_expr word) (λ at alone done. (λ le. refl, refl)), tt)
  expr_told (Expr-F.Column None called) = (tells_settle false (operand.column None called) (column_tells None called), tt)
  expr_told (Expr-F.Column (Some table) called) = (tells_settle false (operand.column (Some table) called) (column_tells (Some table) called), tt)
  expr_told (Expr-F.Expr::Parens a) = (a.1.0, tt)
  expr_told (Expr-F.Query select) = (tells_settle true (operand.scalar (query_of definitions vars select.0)) (scalar_tells (query_of definitions vars select.0)), tt)
  expr_told (Expr-F.Case arms None) =
      (case_tells (map row.arm_leaves (map (λ p. p.0) arms)) false (map (arm_of definitions vars) (map (λ p. p.0) arms)) (pure node.lone_null) (each_told row.arm_leaves (arm_of definitions vars) ArmTold arms) (tells_pure (StayExpr false) node.lone_null (λ le. refl)), tt)
  expr_told (Expr-F.Case arms (Some other)) =
      (case_tells (map row.arm_leaves (map (λ p. p.0) arms)) (row.expr_leaves other.0) (map (arm_of definitions vars) (map (λ p. p.0) arms)) (expr_of definitions vars other.0).read.bind (each_told row.arm_leaves (arm_of definitions vars) ArmTold arms) other.1.0, tt)
  expr_told (Expr-F.Cast a kind) = (
    tells_settle (row.expr_leaves a.0) _ (one_tells (StayExpr (row.expr_leaves a.0)) (StayExpr (row.expr_leaves a.0)) (expr_of definitions vars a.0).read.bind (node.cast_expr kind) a.1.0
        (λ x q. limited_stays (row.expr_leaves a.0) kind (above x.facts kind) (stays_above (row.expr_leaves a.0) x.facts kind q))),
    tt,
  )
  expr_told (Expr-F.Expr::IsNull a b) = (
    tells_settle (row.expr_leaves a.0 || row.expr_leaves b.0) _ (two_tell (StayExpr (row.expr_leaves a.0)) (StayExpr (row.expr_leaves b.0)) (StayExpr (row.expr_leaves a.0 || row.expr_leaves b.0)) (expr_of definitions vars a.0).read.bind (expr_of definitions vars b.0).read.bind node.is_null_expr a.1.0 b.1.0
        (λ x y p q. stays_above (row.expr_leaves a.0 || row.expr_leaves b.0) (beside x.facts y.facts) (node.is_null_kind x.facts.kind y.facts.kind) (stays_beside (row.expr_leaves a.0) (row.expr_leaves b.0) x.facts y.facts p q))),
    tt,
  )
  expr_told (Expr-F.NullIf a b) = (
    tells_settle (row.expr_leaves a.0 || row.expr_leaves b.0) _ (two_tell (StayExpr (row.expr_leaves a.0)) (StayExpr (row.expr_leaves b.0)) (StayExpr (row.expr_leaves a.0 || row.expr_leaves b.0)) (expr_of definitions vars a.0).read.bind (expr_of definitions vars b.0).read.bind node.null_if_expr a.1.0 b.1.0
        (λ x y p q. stays_above (row.expr_leaves a.0 || row.expr_leaves b.0) (beside x.facts y.facts) (node.is_null_kind x.facts.kind y.facts.kind) (stays_beside (row.expr_leaves a.0) (row.expr_leaves b.0) x.facts y.facts p q))),
    tt,
  )
  expr_told (Expr-F.Coalesce items) =
      let qs : List Bool = map row.expr_leaves (map (λ p. p.0) items) in (
        tells_settle (some_of qs) _ (one_tells (AllStay (λ (x : TypedExpr). x.facts) qs) (StayExpr (some_of qs)) (each_read (map read_of (map (expr_of definitions vars) (map (λ p. p.0) items)))).bind node.coalesce_expr (exprs_tell qs (map (expr_of definitions vars) (map (λ p. p.0) items)) (each_told row.expr_leaves (expr_of definitions vars) ExprTold items))
            (λ xs q le. (exprs_stay qs xs no_facts q (omega (arith, le))).1)),
        tt,
      )
  expr_told (Expr-F.Length a) = (tells_settle (row.expr_leaves a.0) _ (one_tells (StayExpr (row.expr_leaves a.0)) (StayExpr (row.expr_leaves a.0)) (expr_of definitions vars a.0).read.bind node.length_expr a.1.0 (λ x q. stays_above (row.expr_leaves a.0) x.facts Int q)), tt)
  expr_told Expr-F.CountRows = (tells_settle false operand.count_rows (count_tells false), tt)
  expr_told (Expr-F.Aggregate agg distinct a) = (tells_settle (row.expr_leaves a.0) _ (aggregate_tells (row.expr_leaves a.0) agg distinct (expr_of definitions vars a.0).read.bind), tt)
  expr_told (Expr-F.Signed signs a) = (tells_settle (row.expr_leaves a.0) _ (signed_tells (row.expr_leaves a.0) signs (expr_of definitions vars a.0).shape (expr_of definitions vars a.0).read.bind a.1.1 a.1.0), tt)
  expr_told (Expr-F.Product first factors) =
      let qs : List Bool = map row.factor_leaves (map (λ p. p.0) factors) in (
        tells_settle (row.expr_leaves first.0 || some_of qs) _ (tells_then (StayExpr (row.expr_leaves first.0)) (StayExpr (row.expr_leaves first.0 || some_of qs)) (expr_of definitions vars first.0).read.bind (λ x. bind.chain_onto x (map (factor_of definitions vars) (map (λ p. p.0) factors))) first.1.0
            (λ x q. chain_tells (row.expr_leaves first.0) qs x (map (factor_of definitions vars) (map (λ p. p.0) factors)) q (each_told row.factor_leaves (factor_of definitions vars) TermTold factors))),
        tt,
      )
  expr_told (Expr-F.Sum first terms) =
      let qs : List Bool = map row.term_leaves (map (λ p. p.0) terms) in (
        tells_settle (row.expr_leaves first.0 || some_of qs) _ (tells_then (StayExpr (row.expr_leaves first.0)) (StayExpr (row.expr_leaves first.0 || some_of qs)) (expr_of definitions vars first.0).read.bind (λ x. bind.chain_onto x (map (term_of definitions vars) (map (λ p. p.0) terms))) first.1.0
            (λ x q. chain_tells (row.expr_leaves first.0) qs x (map (term_of definitions vars) (map (λ p. p.0) terms)) q (each_told row.term_leaves (term_of definitions vars) TermTold terms))),
        tt,
      )

  test_told : (y : TestBelow) → TestTold (row.test_step (leaves_of_Test (trees_of_Test y))) (test_step definitions vars (reads_of_Test (trees_of_Test y)))
  test_told (Test-F.Test::Parens a) = a.1
  test_told (Test-F.Exists select) = exists_tells (query_of definitions vars select.0)
  test_told (Test-F.Compare a sign b) = two_tell (StayExpr (row.expr_leaves a.0)) (StayExpr (row.expr_leaves b.0)) (StayTest (row.expr_leaves a.0 || row.expr_leaves b.0)) (expr_of definitions vars a.0).read.bind (expr_of definitions vars b.0).read.bind (tests.compare_test (bind.compare_op sign)) a.1.0 b.1.0
      (λ x y p q. stays_test (row.expr_leaves a.0 || row.expr_leaves b.0) (beside x.facts y.facts) (stays_beside (row.expr_leaves a.0) (row.expr_leaves b.0) x.facts y.facts p q))
  test_told (Test-F.Test::IsNull a negative) = one_tells (StayExpr (row.expr_leaves a.0)) (StayTest (row.expr_leaves a.0)) (expr_of definitions vars a.0).read.bind (λ x. tests.negated_where negative (tests.is_null_test x)) a.1.0
      (λ x q. negated_stays (row.expr_leaves a.0) negative (tests.is_null_test x) (stays_test (row.expr_leaves a.0) x.facts q))
  test_told (Test-F.Between a negative low high) =
      let pa : Bool = row.expr_leaves a.0 in
      let pl : Bool = row.expr_leaves low.0 in
      let ph : Bool = row.expr_leaves high.0 in
      tells_then (StayExpr pa) (StayTest (pa || (pl || ph))) (expr_of definitions vars a.0).read.bind (λ x. and_then (expr_of definitions vars low.0).read.bind (λ y. and_then (expr_of definitions vars high.0).read.bind (λ z. bind.tested negative (tests.between_test x y z)))) a.1.0
      (λ x q. two_tell (StayExpr pl) (StayExpr ph) (StayTest (pa || (pl || ph))) (expr_of definitions vars low.0).read.bind (expr_of definitions vars high.0).read.bind (λ y z. tests.negated_where negative (tests.between_test x y z)) low.1.0 high.1.0
      (λ y z k l. negated_stays (pa || (pl || ph)) negative (tests.between_test x y z) (stays_test (pa || (pl || ph)) (beside x.facts (beside y.facts z.facts)) (stays_beside pa (pl || ph) x.facts (beside y.facts z.facts) q (stays_beside pl ph y.facts z.facts k l)))))
  test_told (Test-F.InQuery a negative select) = one_tells (StayTest true) (StayTest true) (and_then (expr_of definitions vars a.0).read.bind (operand.in_query (query_of definitions vars select.0))) (tests.negated_where negative)
      (tells_then (StayExpr (row.expr_leaves a.0)) (StayTest true) (expr_of definitions vars a.0).read.bind (operand.in_query (query_of definitions vars select.0)) a.1.0 (λ x q. in_query_tells (query_of definitions vars select.0) x)) (λ x q. negated_stays true negative x q)
  test_told (Test-F.InList a negative items) =
      let pa : Bool = row.expr_leaves a.0 in
      let qs : List Bool = map row.expr_leaves (map (λ p. p.0) items) in
      two_tell (StayExpr pa) (AllStay (λ (x : TypedExpr). x.facts) qs) (StayTest (pa || some_of qs)) (expr_of definitions vars a.0).read.bind (each_read (map read_of (map (expr_of definitions vars) (map (λ p. p.0) items)))).bind (λ x xs. tests.negated_where negative (tests.in_list_test x xs)) a.1.0 (exprs_tell qs (map (expr_of definitions vars) (map (λ p. p.0) items)) (each_told row.expr_leaves (expr_of definitions vars) ExprTold items))
      (λ x xs q k. negated_stays (pa || some_of qs) negative (tests.in_list_test x xs) (stays_test (pa || some_of qs) (node.facts_onto x.facts xs) (λ le. let both = exprs_stay qs xs x.facts k le in none_two pa (some_of qs) (q both.0) both.1)))
  test_told (Test-F.Not count a) = one_tells (StayTest (row.test_leaves a.0)) (StayTest (row.test_leaves a.0)) (test_of definitions vars a.0).bind (tests.negated_where (bind.is_odd count)) a.1 (λ x q. negated_stays (row.test_leaves a.0) (bind.is_odd count) x q)
  test_told (Test-F.And first rest) = joined_tell by.And (row.test_leaves first.0) (map row.test_leaves (map (λ p. p.0) rest)) (test_of definitions vars first.0) (map (test_of definitions vars) (map (λ p. p.0) rest)) first.1 (each_told row.test_leaves (test_of definitions vars) TestTold rest)
  test_told (Test-F.Or first rest) = joined_tell by.Or (row.test_leaves first.0) (map row.test_leaves (map (λ p. p.0) rest)) (test_of definitions vars first.0) (map (test_of definitions vars) (map (λ p. p.0) rest)) first.1 (each_told row.test_leaves (test_of definitions vars) TestTold rest)

  arm_told : (y : ArmBelow) → ArmTold (row.arm_step (leaves_of_Arm (trees_of_Arm y))) (arm_step definitions vars (reads_of_Arm (trees_of_Arm y)))
  arm_told y = two_tell (StayTest (row.test_leaves y.test.0)) (StayExpr (row.expr_leaves y.gives.0)) (StayArm (row.test_leaves y.test.0 || row.expr_leaves y.gives.0)) (test_of definitions vars y.test.0).bind (expr_of definitions vars y.gives.0).read.bind (λ test gives. record { test = test; gives = gives }) y.test.1 y.gives.1.0
      (λ x z p q. stays_beside (row.test_leaves y.test.0) (row.expr_leaves y.gives.0) x.facts z.facts p q)

  factor_told : (y : FactorBelow) → TermTold (row.factor_step (leaves_of_Factor (trees_of_Factor y))) (factor_step definitions vars (reads_of_Factor (trees_of_Factor y)))
  factor_told y = y.operand.1.0

  term_told : (y : TermBelow) → TermTold (row.term_step (leaves_of_Term (trees_of_Term y))) (term_step definitions vars (reads_of_Term (trees_of_Term y)))
  term_told y = y.operand.1.0

  layer_Expr : (y : ExprBelow) → PExpr (roll-Expr (trees_of_Expr y))
  layer_Expr y = subst (λ (z : Bool). ExprTold z (expr_of definitions vars (roll-Expr (trees_of_Expr y)))) (sym (fold-roll-Expr Bool Bool Bool Bool Bool Bool Bool Bool Bool Bool row.expr_step row.item_step row.join_step row.test_step row.arm_step row.factor_step row.from_step row.order_step row.select_step row.term_step (trees_of_Expr y)))
      (subst (ExprTold (row.expr_step (leaves_of_Expr (trees_of_Expr y)))) (sym (fold-roll-Expr ExprRead ItemRead JoinRead (Read TypedTest) (Read TypedArm) TermRead FromRead OrderRead (Outcome Selected) TermRead (expr_step definitions vars) (item_step definitions vars) (join_step definitions vars) (test_step definitions vars) (arm_step definitions vars) (factor_step definitions vars) (from_step definitions vars) (order_step definitions vars) (select_step definitions vars) (term_step definitions vars) (trees_of_Expr y))) (expr_told y))

  layer_Test : (y : TestBelow) → PTest (roll-Test (trees_of_Test y))
  layer_Test y = subst (λ (z : Bool). TestTold z (test_of definitions vars (roll-Test (trees_of_Test y)))) (sym (fold-roll-Test Bool Bool Bool Bool Bool Bool Bool Bool Bool Bool row.expr_step row.item_step row.join_step row.test_step row.arm_step row.factor_step row.from_step row.order_step row.select_step row.term_step (trees_of_Test y)))
      (subst (TestTold (row.test_step (leaves_of_Test (trees_of_Test y)))) (sym (fold-roll-Test ExprRead ItemRead JoinRead (Read TypedTest) (Read TypedArm) TermRead FromRead OrderRead (Outcome Selected) TermRead (expr_step definitions vars) (item_step definitions vars) (join_step definitions vars) (test_step definitions vars) (arm_step definitions vars) (factor_step definitions vars) (from_step definitions vars) (order_step definitions vars) (select_step definitions vars) (term_step definitions vars) (trees_of_Test y))) (test_told y))

  layer_Arm : (y : ArmBelow) → PArm (roll-Arm (trees_of_Arm y))
  layer_Arm y = subst (λ (z : Bool). ArmTold z (arm_of definitions vars (roll-Arm (trees_of_Arm y)))) (sym (fold-roll-Arm Bool Bool Bool Bool Bool Bool Bool Bool Bool Bool row.expr_step row.item_step row.join_step row.test_step row.arm_step row.factor_step row.from_step row.order_step row.select_step row.term_step (trees_of_Arm y)))
      (subst (ArmTold (row.arm_step (leaves_of_Arm (trees_of_Arm y)))) (sym (fold-roll-Arm ExprRead ItemRead JoinRead (Read TypedTest) (Read TypedArm) TermRead FromRead OrderRead (Outcome Selected) TermRead (expr_step definitions vars) (item_step definitions vars) (join_step definitions vars) (test_step definitions vars) (arm_step definitions vars) (factor_step definitions vars) (from_step definitions vars) (order_step definitions vars) (select_step definitions vars) (term_step definitions vars) (trees_of_Arm y))) (arm_told y))

  layer_Factor : (y : FactorBelow) → PFactor (roll-Factor (trees_of_Factor y))
  layer_Factor y = subst (λ (z : Bool). TermTold z (factor_of definitions vars (roll-Factor (trees_of_Factor y)))) (sym (fold-roll-Factor Bool Bool Bool Bool Bool Bool Bool Bool Bool Bool row.expr_step row.item_step row.join_step row.test_step row.arm_step row.factor_step row.from_step row.order_step row.select_step row.term_step (trees_of_Factor y)))
      (subst (TermTold (row.factor_step (leaves_of_Factor (trees_of_Factor y)))) (sym (fold-roll-Factor ExprRead ItemRead JoinRead (Read TypedTest) (Read TypedArm) TermRead FromRead OrderRead (Outcome Selected) TermRead (expr_step definitions vars) (item_step definitions vars) (join_step definitions vars) (test_step definitions vars) (arm_step definitions vars) (factor_step definitions vars) (from_step definitions vars) (order_step definitions vars) (select_step definitions vars) (term_step definitions vars) (trees_of_Factor y))) (factor_told y))

  layer_Term : (y : TermBelow) → PTerm (roll-Term (trees_of_Term y))
  layer_Term y = subst (λ (z : Bool). TermTold z (term_of definitions vars (roll-Term (trees_of_Term y)))) (sym (fold-roll-Term Bool Bool Bool Bool Bool Bool Bool Bool Bool Bool row.expr_step row.item_step row.join_step row.test_step row.arm_step row.factor_step row.from_step row.order_step row.select_step row.term_step (trees_of_Term y)))
      (subst (TermTold (row.term_step (leaves_of_Term (trees_of_Term y)))) (sym (fold-roll-Term ExprRead ItemRead JoinRead (Read TypedTest) (Read TypedArm) TermRead FromRead OrderRead (Outcome Selected) TermRead (expr_step definitions vars) (item_step definitions vars) (join_step definitions vars) (test_step definitions vars) (arm_step definitions vars) (factor_step definitions vars) (from_step definitions vars) (order_step definitions vars) (select_step definitions vars) (term_step definitions vars) (trees_of_Term y))) (term_told y))

  -- what a test is bound to, if it is not too deep
  test_told_whole : (x : Test) → PTest x
  test_told_whole = ind-Test PExpr PItem PJoin PTest PArm PFactor PFromClause POrderItem PSelect PTerm
      (λ x y is. subst (λ z. PExpr (roll-Expr z)) is (layer_Expr y))
      (λ x y is. tt)
      (λ x y is. tt)
      (λ x y is. subst (λ z. PTest (roll-Test z)) is (layer_Test y))
      (λ x y is. subst (λ z. PArm (roll-Arm z)) is (layer_Arm y))
      (λ x y is. subst (λ z. PFactor (roll-Factor z)) is (layer_Factor y))
      (λ x y is. tt)
      (λ x y is. tt)
      (λ x y is. tt)
      (λ x y is. subst (λ z. PTerm (roll-Term z)) is (layer_Term y))

-- ---- tables

not_below : (a b : ℕ) → nat_lt a b ≡ false → b ≤ a
not_below a b e = grind (arith, nat_tests)

-- CHECKs of which none is too deep
checks_stay : (before : List BoundTest) (checks : List CheckTree) (at : Context) (done : Progress) (r : List BoundTest × Progress) → RowAlone at → checks_onto [] [] before checks at done ≡ Ok r → r.1.beyond ≡ false
    → (done.beyond ≡ false) × (some_of (map (λ (check : CheckTree). row.test_leaves check.test) checks) ≡ false)
checks_stay before [] at done r alone e fits = (let same : done ≡ r.1 = cc in ap (λ (p : Progress). p.beyond) same ∙ fits, refl)
checks_stay before (check ∷ rest) at done r alone e fits = by ((test_of [] [] check.test).bind at done) (test_told_whole [] [] check.test at alone done) e
    (λ a e. checks_stay (before ++ a.0.test ∷ []) rest at (beyond_where (is_deep a.0.facts) a.1) r alone e fits)
  where
    by : (o : Outcome (TypedTest × Progress)) → Told (StayTest (row.test_leaves check.test)) done o
        → after {A = BoundTest × Progress} (after {A = TypedTest × Progress} o (λ a. Ok (noted_test a.0 a.1))) (λ a. checks_onto [] [] (before ++ a.0 ∷ []) rest at a.1) ≡ Ok r
        → ((a : TypedTest × Progress) → checks_onto [] [] (before ++ a.0.test ∷ []) rest at (beyond_where (is_deep a.0.facts) a.1) ≡ Ok r
        → ((beyond_where (is_deep a.0.facts) a.1).beyond ≡ false) × (some_of (map (λ (check : CheckTree). row.test_leaves check.test) rest) ≡ false))
        → (done.beyond ≡ false) × ((row.test_leaves check.test || some_of (map (λ (check : CheckTree). row.test_leaves check.test) rest)) ≡ false)
    by (Ok a) told e on =
        let more = on a e in
        let first : a.1.beyond ≡ false = none_first a.1.beyond (is_deep a.0.facts) more.0 in
        let shallow : nat_lt max_depth a.0.facts.depth ≡ false = none_second a.1.beyond (is_deep a.0.facts) more.0 in
        (ap (λ (p : Progress). p.beyond) (sym told.1) ∙ first, none_two (row.test_leaves check.test) (some_of (map (λ (check : CheckTree). row.test_leaves check.test) rest)) (told.0 (not_below max_depth a.0.facts.depth shallow)) more.1)
    by (Err refusal) told e on = absurd (cc)

same_of : {A : Type 0} (o : Outcome A) (a b : A) → o ≡ Ok a → o ≡ Ok b → a ≡ b
same_of o a b e f = cc

-- what came before what came to a value
past : {A B : Type 0} (o : Outcome A) (next : A → Outcome B) (y : B) → after o next ≡ Ok y → (x : A) × (o ≡ Ok x) × (next x ≡ Ok y)
past (Ok x) next y e = (x, refl, e)
past (Err refusal) next y e = absurd (cc)

table_stays : (definitions : List Definition) (table : TableTree) → create_table definitions table ≡ Ok false → table_leaves table ≡ false
table_stays definitions table e =
    let (keys, made, e1) = past (all_keys table.columns table.key) _ false e in
    let (uniques, made2, e2) = past (all_keys table.columns table.uniques) _ false e1 in
    let (checks, is, e3) = past (checks_of table) _ false e2 in
    of_checks checks is e3
  where
    of_checks : (checks : List BoundTest × Progress) → checks_of table ≡ Ok checks
        → after (all_foreigns definitions table table.foreigns) (λ foreigns. Ok (is_beyond checks.1 || is_odd_table definitions table)) ≡ Ok false → table_leaves table ≡ false
    of_checks checks is e =
        let (foreigns, made, last) = past (all_foreigns definitions table table.foreigns) (λ foreigns. Ok (is_beyond checks.1 || is_odd_table definitions table)) false e in
        let none : (is_beyond checks.1 || is_odd_table definitions table) ≡ false = same_of (Ok (is_beyond checks.1 || is_odd_table definitions table)) _ false refl last in
        let fits : checks.1.beyond ≡ false = none_first checks.1.beyond _ (none_first (is_beyond checks.1) (is_odd_table definitions table) none) in
        (checks_stay [] table.checks (row_context table) (begin_at 0) checks (record { alone = refl; no_sums = refl }) is fits).1

form_stays : (definitions : List Definition) (vars : List Variable) (table : TableTree) (kept : List ℕ) (of : Bound) → bind_form definitions vars (Form-F.CreateTable table kept) ≡ Ok of → table_leaves table ≡ false
form_stays definitions vars table kept of e =
    let (known, found, e1) = past (all_tables definitions (distinct_onto [] (table_names (Form-F.CreateTable table kept)))) _ of e in
    let (made, is, e2) = past (after (create_table definitions table) (λ beyond. Ok (plain_made beyond))) _ of e1 in
    let (beyond, created, e3) = past (create_table definitions table) (λ beyond. Ok (plain_made beyond)) made is in
    by beyond created made (same_of (Ok (plain_made beyond)) (plain_made beyond) made refl e3) e2
  where
    within : (b : Bool) (a : Bound) → within_limits b a ≡ Ok of → b ≡ false
    within true a e = absurd (cc)
    within false a e = refl

    by : (beyond : Bool) → create_table definitions table ≡ Ok beyond → (made : Made) → plain_made beyond ≡ made → within_limits (made.beyond || false) made.bound ≡ Ok of → table_leaves table ≡ false
    by beyond created made same e =
        let fits : beyond ≡ false = ap (λ (z : Made). z.beyond) same ∙ none_first made.beyond false (within (made.beyond || false) made.bound e) in
        table_stays definitions table (created ∙ ap Ok fits)

bound_layer : (statement : Statement) (layer : Layer) → form_of statement ≡ layer → StaysAs statement layer
bound_layer statement (Form-F.CreateTable table kept) is = λ definitions vars of e.
    form_stays definitions vars table kept of (bound_ok (bind_form definitions vars (Form-F.CreateTable table kept)) of (subst (λ (z : Layer). bound_as (bind_form definitions vars z) ≡ Ok of) is e))
  where
    bound_ok : (o : Outcome Bound) (of : Bound) → bound_as o ≡ Ok of → o ≡ Ok of
    bound_ok (Ok x) of e = let same : x ≡ of = cc in ap Ok same
    bound_ok (Err refusal) of e = absurd (cc)
bound_layer statement _ is = tt

-- a CREATE TABLE that is bound leaves no row
pub created_stays : CreatedStays
created_stays statement = bound_layer statement (form_of statement) refl
