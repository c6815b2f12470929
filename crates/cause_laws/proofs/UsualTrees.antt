-- Whatever an expression, a test or a select is, what binds it is refused by usual numbers alone: by induction over trees.
use Rattle.std.proofs.Common.{sym, subst, List, [], ◌∷◌, map, Option, Some, None, Bool, ℤ}
use Rattle.std.specs.List.{AllByRecursion}
use Rattle.session_vars.specs.declared.Variable.{Variable}
use Rattle.tsql_tree.specs.declared.definition.Definition.{Definition}
use Rattle.tsql_tree.specs.declared.query.Expr.{Expr}
use Rattle.tsql_tree.specs.declared.query.Item.{Item}
use Rattle.tsql_tree.specs.declared.query.Join.{Join}
use Rattle.tsql_tree.specs.declared.query.Test.{Test}
use Rattle.tsql_tree.specs.declared.query.Arm.{Arm}
use Rattle.tsql_tree.specs.declared.query.Factor.{Factor}
use Rattle.tsql_tree.specs.declared.query.FromClause.{FromClause}
use Rattle.tsql_tree.specs.declared.query.OrderItem.{OrderItem}
use Rattle.tsql_tree.specs.declared.query.Select.{Select}
use Rattle.tsql_tree.specs.declared.query.Term.{Term}
use Rattle.tsql_tree.specs.declared.query.Expr.TheOpen.{Expr-F, Item-F, Join-F, Test-F, Arm-F, Factor-F, FromClause-F, OrderItem-F, Select-F, Term-F}
use Rattle.tsql_tree.specs.declared.query.Expr.TheFolds.{ind-Expr, ind-Test, ind-Select, map-Expr, map-Item, map-Join, map-Test, map-Arm, map-Factor, map-FromClause, map-OrderItem, map-Select, map-Term, fold-roll-Expr, fold-roll-Item, fold-roll-Join, fold-roll-Test, fold-roll-Arm, fold-roll-Factor, fold-roll-FromClause, fold-roll-OrderItem, fold-roll-Select, fold-roll-Term}
use Rattle.tsql_tree.specs.declared.query.Expr.TheViews.{roll-Expr, roll-Item, roll-Join, roll-Test, roll-Arm, roll-Factor, roll-FromClause, roll-OrderItem, roll-Select, roll-Term}
use Rattle.typed_nodes.specs.declared.test.Junction.{Junction}
use Rattle.typed_nodes.specs.declared.test.Junction.TheVariants as by
use Rattle.typed_nodes.specs.declared.expr.TypedArm.{TypedArm}
use Rattle.typed_nodes.specs.declared.expr.TypedExpr.{TypedExpr}
use Rattle.typed_nodes.specs.declared.test.TypedTest.{TypedTest}
use Rattle.typed_nodes.specs.Refusals.{Outcome}
use Rattle.typed_nodes.specs.Nodes as node
use Rattle.typed_nodes.specs.Tests as tests
use Rattle.clause_binder.specs.declared.operand.Selected.{Selected}
use Rattle.clause_binder.specs.Progress.{Binding, Read, and_then, bind_of, each_read, pure}
use Rattle.clause_binder.specs.Operands as operand
use Rattle.clause_binder.specs.Clauses.{ExprRead, FromRead, ItemRead, JoinRead, OrderRead, SelectRead, select_of}
use Rattle.clause_binder.specs.Bind as bind
use Rattle.clause_binder.specs.Bind.{TermRead, expr_of, item_of, join_of, test_of, arm_of, factor_of, from_of, order_of, query_of, term_of, expr_step, item_step, join_step, test_step, arm_step, factor_step, from_step, order_step, select_step, term_step, read_of}
use Rattle.cause_laws.proofs.UsualBinding.{Binds, BindsFrom, BindsItem, BindsJoin, BindsTest, Bounds, binds_aggregate, binds_chain, binds_column, binds_count, binds_each, binds_exists, binds_in_query, binds_pure, binds_scalar, binds_settled, binds_signed, binds_then, binds_variable, bounds_select}

-- ---- nodes over parts

binds_one : {A B : Type 0} (a : Binding A) (make : A → B) → Binds a → Binds (and_then a (λ x. pure (make x)))
binds_one a make h = binds_then a (λ x. pure (make x)) h (λ x. binds_pure (make x))

binds_two : {A B C : Type 0} (a : Binding A) (b : Binding B) (make : A → B → C) → Binds a → Binds b → Binds (and_then a (λ x. and_then b (λ y. pure (make x y))))
binds_two a b make h g = binds_then a (λ x. and_then b (λ y. pure (make x y))) h (λ x. binds_one b (make x) g)

binds_of : {A : Type 0} (parts : List (Read A)) → AllByRecursion (λ (a : Read A). Binds a.bind) parts → AllByRecursion (λ (b : Binding A). Binds b) (map bind_of parts)
binds_of [] all = tt
binds_of (part ∷ parts) all = (all.0, binds_of parts all.1)

binds_parts : {A : Type 0} (parts : List (Read A)) → AllByRecursion (λ (a : Read A). Binds a.bind) parts → Binds (each_read parts).bind
binds_parts parts all = binds_each [] (map bind_of parts) (binds_of parts all)

reads_of : (items : List ExprRead) → AllByRecursion (λ (a : ExprRead). Binds a.read.bind) items → AllByRecursion (λ (a : Read TypedExpr). Binds a.bind) (map read_of items)
reads_of [] all = tt
reads_of (item ∷ items) all = (all.0, reads_of items all.1)

binds_exprs : (items : List ExprRead) → AllByRecursion (λ (a : ExprRead). Binds a.read.bind) items → Binds (each_read (map read_of items)).bind
binds_exprs items all = binds_parts (map read_of items) (reads_of items all)

binds_joined : (junction : Junction) (first : Read TypedTest) (rest : List (Read TypedTest)) → Binds first.bind → AllByRecursion (λ (a : Read TypedTest). Binds a.bind) rest → Binds (bind.joined_by junction first rest).bind
binds_joined junction first rest h all = binds_two first.bind (each_read rest).bind (tests.all_joined junction) h (binds_parts rest all)

-- what holds of each of a list
each_below : {A B : Type 0} (f : A → B) (P : B → Type 0) (items : List ((a : A) × P (f a))) → AllByRecursion P (map f (map (λ p. p.0) items))
each_below f P [] = tt
each_below f P (p ∷ rest) = (p.1, each_below f P rest)

module _ (definitions : List Definition) (vars : List Variable) where
  abbrev PExpr : Expr → Type 0
  PExpr x = Binds (expr_of definitions vars x).read.bind

  abbrev PItem : Item → Type 0
  PItem x = BindsItem (item_of definitions vars x)

  abbrev PJoin : Join → Type 0
  PJoin x = BindsJoin (join_of definitions vars x)

  abbrev PTest : Test → Type 0
  PTest x = Binds (test_of definitions vars x).bind

  abbrev PArm : Arm → Type 0
  PArm x = Binds (arm_of definitions vars x).bind

  abbrev PFactor : Factor → Type 0
  PFactor x = Binds (factor_of definitions vars x).read.bind

  abbrev PFromClause : FromClause → Type 0
  PFromClause x = BindsFrom (Some (from_of definitions vars x))

  abbrev POrderItem : OrderItem → Type 0
  POrderItem x = Binds (order_of definitions vars x).expr.read.bind

  abbrev PSelect : Select → Type 0
  PSelect x = Bounds (query_of definitions vars x)

  abbrev PTerm : Term → Type 0
  PTerm x = Binds (term_of definitions vars x).read.bind

  -- ---- a layer of trees, and what binds it

  abbrev ExprBelow : Type 0
  ExprBelow = Expr-F ((x : Expr) × PExpr x) ((x : Item) × PItem x) ((x : Join) × PJoin x) ((x : Test) × PTest x) ((x : Arm) × PArm x) ((x : Factor) × PFactor x) ((x : FromClause) × PFromClause x) ((x : OrderItem) × POrderItem x) ((x : Select) × PSelect x) ((x : Term) × PTerm x)

  abbrev trees_of_Expr : ExprBelow → Expr-F Expr Item Join Test Arm Factor FromClause OrderItem Select Term
  trees_of_Expr = map-Expr _ _ _ _ _ _ _ _ _ _ Expr Item Join Test Arm Factor FromClause OrderItem Select Term (λ p. p.0) (λ p. p.0) (λ p. p.0) (λ p. p.0) (λ p. p.0) (λ p. p.0) (λ p. p.0) (λ p. p.0) (λ p. p.0) (λ p. p.0)

  abbrev reads_of_Expr : Expr-F Expr Item Join Test Arm Factor FromClause OrderItem Select Term → Expr-F ExprRead ItemRead JoinRead (Read TypedTest) (Read TypedArm) TermRead FromRead OrderRead (Outcome Selected) TermRead
  reads_of_Expr = map-Expr _ _ _ _ _ _ _ _ _ _ ExprRead ItemRead JoinRead (Read TypedTest) (Read TypedArm) TermRead FromRead OrderRead (Outcome Selected) TermRead (expr_of definitions vars) (item_of definitions vars) (join_of definitions vars) (test_of definitions vars) (arm_of definitions vars) (factor_of definitions vars) (from_of definitions vars) (order_of definitions vars) (query_of definitions vars) (term_of definitions vars)

  abbrev ItemBelow : Type 0
  ItemBelow = Item-F ((x : Expr) × PExpr x) ((x : Item) × PItem x) ((x : Join) × PJoin x) ((x : Test) × PTest x) ((x : Arm) × PArm x) ((x : Factor) × PFactor x) ((x : FromClause) × PFromClause x) ((x : OrderItem) × POrderItem x) ((x : Select) × PSelect x) ((x : Term) × PTerm x)

  abbrev trees_of_Item : ItemBelow → Item-F Expr Item Join Test Arm Factor FromClause OrderItem Select Term
  trees_of_Item = map-Item _ _ _ _ _ _ _ _ _ _ Expr Item Join Test Arm Factor FromClause OrderItem Select Term (λ p. p.0) (λ p. p.0) (λ p. p.0) (λ p. p.0) (λ p. p.0) (λ p. p.0) (λ p. p.0) (λ p. p.0) (λ p. p.0) (λ p. p.0)

  abbrev reads_of_Item : Item-F Expr Item Join Test Arm Factor FromClause OrderItem Select Term → Item-F ExprRead ItemRead JoinRead (Read TypedTest) (Read TypedArm) TermRead FromRead OrderRead (Outcome Selected) TermRead
  reads_of_Item = map-Item _ _ _ _ _ _ _ _ _ _ ExprRead ItemRead JoinRead (Read TypedTest) (Read TypedArm) TermRead FromRead OrderRead (Outcome Selected) TermRead (expr_of definitions vars) (item_of definitions vars) (join_of definitions vars) (test_of definitions vars) (arm_of definitions vars) (factor_of definitions vars) (from_of definitions vars) (order_of definitions vars) (query_of definitions vars) (term_of definitions vars)

  abbrev JoinBelow : Type 0
  JoinBelow = Join-F ((x : Expr) × PExpr x) ((x : Item) × PItem x) ((x : Join) × PJoin x) ((x : Test) × PTest x) ((x : Arm) × PArm x) ((x : Factor) × PFactor x) ((x : FromClause) × PFromClause x) ((x : OrderItem) × POrderItem x) ((x : Select) × PSelect x) ((x : Term) × PTerm x)

  abbrev trees_of_Join : JoinBelow → Join-F Expr Item Join Test Arm Factor FromClause OrderItem Select Term
  trees_of_Join = map-Join _ _ _ _ _ _ _ _ _ _ Expr Item Join Test Arm Factor FromClause OrderItem Select Term (λ p. p.0) (λ p. p.0) (λ p. p.0) (λ p. p.0) (λ p. p.0) (λ p. p.0) (λ p. p.0) (λ p. p.0) (λ p. p.0) (λ p. p.0)

  abbrev reads_of_Join : Join-F Expr Item Join Test Arm Factor FromClause OrderItem Select Term → Join-F ExprRead ItemRead JoinRead (Read TypedTest) (Read TypedArm) TermRead FromRead OrderRead (Outcome Selected) TermRead
  reads_of_Join = map-Join _ _ _ _ _ _ _ _ _ _ ExprRead ItemRead JoinRead (Read TypedTest) (Read TypedArm) TermRead FromRead OrderRead (Outcome Selected) TermRead (expr_of definitions vars) (item_of definitions vars) (join_of definitions vars) (test_of definitions vars) (arm_of definitions vars) (factor_of definitions vars) (from_of definitions vars) (order_of definitions vars) (query_of definitions vars) (term_of definitions vars)

  abbrev TestBelow : Type 0
  TestBelow = Test-F ((x : Expr) × PExpr x) ((x : Item) × PItem x) ((x : Join) × PJoin x) ((x : Test) × PTest x) ((x : Arm) × PArm x) ((x : Factor) × PFactor x) ((x : FromClause) × PFromClause x) ((x : OrderItem) × POrderItem x) ((x : Select) × PSelect x) ((x : Term) × PTerm x)

  abbrev trees_of_Test : TestBelow → Test-F Expr Item Join Test Arm Factor FromClause OrderItem Select Term
  trees_of_Test = map-Test _ _ _ _ _ _ _ _ _ _ Expr Item Join Test Arm Factor FromClause OrderItem Select Term (λ p. p.0) (λ p. p.0) (λ p. p.0) (λ p. p.0) (λ p. p.0) (λ p. p.0) (λ p. p.0) (λ p. p.0) (λ p. p.0) (λ p. p.0)

  abbrev reads_of_Test : Test-F Expr Item Join Test Arm Factor FromClause OrderItem Select Term → Test-F ExprRead ItemRead JoinRead (Read TypedTest) (Read TypedArm) TermRead FromRead OrderRead (Outcome Selected) TermRead
  reads_of_Test = map-Test _ _ _ _ _ _ _ _ _ _ ExprRead ItemRead JoinRead (Read TypedTest) (Read TypedArm) TermRead FromRead OrderRead (Outcome Selected) TermRead (expr_of definitions vars) (item_of definitions vars) (join_of definitions vars) (test_of definitions vars) (arm_of definitions vars) (factor_of definitions vars) (from_of definitions vars) (order_of definitions vars) (query_of definitions vars) (term_of definitions vars)

  abbrev ArmBelow : Type 0
  ArmBelow = Arm-F ((x : Expr) × PExpr x) ((x : Item) × PItem x) ((x : Join) × PJoin x) ((x : Test) × PTest x) ((x : Arm) × PArm x) ((x : Factor) × PFactor x) ((x : FromClause) × PFromClause x) ((x : OrderItem) × POrderItem x) ((x : Select) × PSelect x) ((x : Term) × PTerm x)

  abbrev trees_of_Arm : ArmBelow → Arm-F Expr Item Join Test Arm Factor FromClause OrderItem Select Term
  trees_of_Arm = map-Arm _ _ _ _ _ _ _ _ _ _ Expr Item Join Test Arm Factor FromClause OrderItem Select Term (λ p. p.0) (λ p. p.0) (λ p. p.0) (λ p. p.0) (λ p. p.0) (λ p. p.0) (λ p. p.0) (λ p. p.0) (λ p. p.0) (λ p. p.0)

  abbrev reads_of_Arm : Arm-F Expr Item Join Test Arm Factor FromClause OrderItem Select Term → Arm-F ExprRead ItemRead JoinRead (Read TypedTest) (Read TypedArm) TermRead FromRead OrderRead (Outcome Selected) TermRead
  reads_of_Arm = map-Arm _ _ _ _ _ _ _ _ _ _ ExprRead ItemRead JoinRead (Read TypedTest) (Read TypedArm) TermRead FromRead OrderRead (Outcome Selected) TermRead (expr_of definitions vars) (item_of definitions vars) (join_of definitions vars) (test_of definitions vars) (arm_of definitions vars) (factor_of definitions vars) (from_of definitions vars) (order_of definitions vars) (query_of definitions vars) (term_of definitions vars)

  abbrev FactorBelow : Type 0
  FactorBelow = Factor-F ((x : Expr) × PExpr x) ((x : Item) × PItem x) ((x : Join) × PJoin x) ((x : Test) × PTest x) ((x : Arm) × PArm x) ((x : Factor) × PFactor x) ((x : FromClause) × PFromClause x) ((x : OrderItem) × POrderItem x) ((x : Select) × PSelect x) ((x : Term) × PTerm x)

  abbrev trees_of_Factor : FactorBelow → Factor-F Expr Item Join Test Arm Factor FromClause OrderItem Select Term
  trees_of_Factor = map-Factor _ _ _ _ _ _ _ _ _ _ Expr Item Join Test Arm Factor FromClause OrderItem Select Term (λ p. p.0) (λ p. p.0) (λ p. p.0) (λ p. p.0) (λ p. p.0) (λ p. p.0) (λ p. p.0) (λ p. p.0) (λ p. p.0) (λ p. p.0)

  abbrev reads_of_Factor : Factor-F Expr Item Join Test Arm Factor FromClause OrderItem Select Term → Factor-F ExprRead ItemRead JoinRead (Read TypedTest) (Read TypedArm) TermRead FromRead OrderRead (Outcome Selected) TermRead
  reads_of_Factor = map-Factor _ _ _ _ _ _ _ _ _ _ ExprRead ItemRead JoinRead (Read TypedTest) (Read TypedArm) TermRead FromRead OrderRead (Outcome Selected) TermRead (expr_of definitions vars) (item_of definitions vars) (join_of definitions vars) (test_of definitions vars) (arm_of definitions vars) (factor_of definitions vars) (from_of definitions vars) (order_of definitions vars) (query_of definitions vars) (term_of definitions vars)

  abbrev FromClauseBelow : Type 0
  FromClauseBelow = FromClause-F ((x : Expr) × PExpr x) ((x : Item) × PItem x) ((x : Join) × PJoin x) ((x : Test) × PTest x) ((x : Arm) × PArm x) ((x : Factor) × PFactor x) ((x : FromClause) × PFromClause x) ((x : OrderItem) × POrderItem x) ((x : Select) × PSelect x) ((x : Term) × PTerm x)

  abbrev trees_of_FromClause : FromClauseBelow → FromClause-F Expr Item Join Test Arm Factor FromClause OrderItem Select Term
  trees_of_FromClause = map-FromClause _ _ _ _ _ _ _ _ _ _ Expr Item Join Test Arm Factor FromClause OrderItem Select Term (λ p. p.0) (λ p. p.0) (λ p. p.0) (λ p. p.0) (λ p. p.0) (λ p. p.0) (λ p. p.0) (λ p. p.0) (λ p. p.0) (λ p. p.0)

  abbrev reads_of_FromClause : FromClause-F Expr Item Join Test Arm Factor FromClause OrderItem Select Term → FromClause-F ExprRead ItemRead JoinRead (Read TypedTest) (Read TypedArm) TermRead FromRead OrderRead (Outcome Selected) TermRead
  reads_of_FromClause = map-FromClause _ _ _ _ _ _ _ _ _ _ ExprRead ItemRead JoinRead (Read TypedTest) (Read TypedArm) TermRead FromRead OrderRead (Outcome Selected) TermRead (expr_of definitions vars) (item_of definitions vars) (join_of definitions vars) (test_of definitions vars) (arm_of definitions vars) (factor_of definitions vars) (from_of definitions vars) (order_of definitions vars) (query_of definitions vars) (term_of definitions vars)

  abbrev OrderItemBelow : Type 0
  OrderItemBelow = OrderItem-F ((x : Expr) × PExpr x) ((x : Item) × PItem x) ((x : Join) × PJoin x) ((x : Test) × PTest x) ((x : Arm) × PArm x) ((x : Factor) × PFactor x) ((x : FromClause) × PFromClause x) ((x : OrderItem) × POrderItem x) ((x : Select) × PSelect x) ((x : Term) × PTerm x)

  abbrev trees_of_OrderItem : OrderItemBelow → OrderItem-F Expr Item Join Test Arm Factor FromClause OrderItem Select Term
  trees_of_OrderItem = map-OrderItem _ _ _ _ _ _ _ _ _ _ Expr Item Join Test Arm Factor FromClause OrderItem Select Term (λ p. p.0) (λ p. p.0) (λ p. p.0) (λ p. p.0) (λ p. p.0) (λ p. p.0) (λ p. p.0) (λ p. p.0) (λ p. p.0) (λ p. p.0)

  abbrev reads_of_OrderItem : OrderItem-F Expr Item Join Test Arm Factor FromClause OrderItem Select Term → OrderItem-F ExprRead ItemRead JoinRead (Read TypedTest) (Read TypedArm) TermRead FromRead OrderRead (Outcome Selected) TermRead
  reads_of_OrderItem = map-OrderItem _ _ _ _ _ _ _ _ _ _ ExprRead ItemRead JoinRead (Read TypedTest) (Read TypedArm) TermRead FromRead OrderRead (Outcome Selected) TermRead (expr_of definitions vars) (item_of definitions vars) (join_of definitions vars) (test_of definitions vars) (arm_of definitions vars) (factor_of definitions vars) (from_of definitions vars) (order_of definitions vars) (query_of definitions vars) (term_of definitions vars)

  abbrev SelectBelow : Type 0
  SelectBelow = Select-F ((x : Expr) × PExpr x) ((x : Item) × PItem x) ((x : Join) × PJoin x) ((x : Test) × PTest x) ((x : Arm) × PArm x) ((x : Factor) × PFactor x) ((x : FromClause) × PFromClause x) ((x : OrderItem) × POrderItem x) ((x : Select) × PSelect x) ((x : Term) × PTerm x)

  abbrev trees_of_Select : SelectBelow → Select-F Expr Item Join Test Arm Factor FromClause OrderItem Select Term
  trees_of_Select = map-Select _ _ _ _ _ _ _ _ _ _ Expr Item Join Test Arm Factor FromClause OrderItem Select Term (λ p. p.0) (λ p. p.0) (λ p. p.0) (λ p. p.0) (λ p. p.0) (λ p. p.0) (λ p. p.0) (λ p. p.0) (λ p. p.0) (λ p. p.0)

  abbrev reads_of_Select : Select-F Expr Item Join Test Arm Factor FromClause OrderItem Select Term → Select-F ExprRead ItemRead JoinRead (Read TypedTest) (Read TypedArm) TermRead FromRead OrderRead (Outcome Selected) TermRead
  reads_of_Select = map-Select _ _ _ _ _ _ _ _ _ _ ExprRead ItemRead JoinRead (Read TypedTest) (Read TypedArm) TermRead FromRead OrderRead (Outcome Selected) TermRead (expr_of definitions vars) (item_of definitions vars) (join_of definitions vars) (test_of definitions vars) (arm_of definitions vars) (factor_of definitions vars) (from_of definitions vars) (order_of definitions vars) (query_of definitions vars) (term_of definitions vars)

  abbrev TermBelow : Type 0
  TermBelow = Term-F ((x : Expr) × PExpr x) ((x : Item) × PItem x) ((x : Join) × PJoin x) ((x : Test) × PTest x) ((x : Arm) × PArm x) ((x : Factor) × PFactor x) ((x : FromClause) × PFromClause x) ((x : OrderItem) × POrderItem x) ((x : Select) × PSelect x) ((x : Term) × PTerm x)

  abbrev trees_of_Term : TermBelow → Term-F Expr Item Join Test Arm Factor FromClause OrderItem Select Term
  trees_of_Term = map-Term _ _ _ _ _ _ _ _ _ _ Expr Item Join Test Arm Factor FromClause OrderItem Select Term (λ p. p.0) (λ p. p.0) (λ p. p.0) (λ p. p.0) (λ p. p.0) (λ p. p.0) (λ p. p.0) (λ p. p.0) (λ p. p.0) (λ p. p.0)

  abbrev reads_of_Term : Term-F Expr Item Join Test Arm Factor FromClause OrderItem Select Term → Term-F ExprRead ItemRead JoinRead (Read TypedTest) (Read TypedArm) TermRead FromRead OrderRead (Outcome Selected) TermRead
  reads_of_Term = map-Term _ _ _ _ _ _ _ _ _ _ ExprRead ItemRead JoinRead (Read TypedTest) (Read TypedArm) TermRead FromRead OrderRead (Outcome Selected) TermRead (expr_of definitions vars) (item_of definitions vars) (join_of definitions vars) (test_of definitions vars) (arm_of definitions vars) (factor_of definitions vars) (from_of definitions vars) (order_of definitions vars) (query_of definitions vars) (term_of definitions vars)

  -- ---- expressions

  exprs_below : (items : List ((x : Expr) × PExpr x)) → AllByRecursion (λ (a : ExprRead). Binds a.read.bind) (map (expr_of definitions vars) (map (λ p. p.0) items))
  exprs_below items = each_below (expr_of definitions vars) (λ (a : ExprRead). Binds a.read.bind) items

  tests_below : (items : List ((x : Test) × PTest x)) → AllByRecursion (λ (a : Read TypedTest). Binds a.bind) (map (test_of definitions vars) (map (λ p. p.0) items))
  tests_below items = each_below (test_of definitions vars) (λ (a : Read TypedTest). Binds a.bind) items

  arms_below : (items : List ((x : Arm) × PArm x)) → AllByRecursion (λ (a : Read TypedArm). Binds a.bind) (map (arm_of definitions vars) (map (λ p. p.0) items))
  arms_below items = each_below (arm_of definitions vars) (λ (a : Read TypedArm). Binds a.bind) items

  expr_binds : (y : ExprBelow) → Binds (expr_step definitions vars (reads_of_Expr (trees_of_Expr y))).read.bind
  expr_binds (Expr-F.Number n) = binds_settled (pure (bind.literal n)) (binds_pure (bind.literal n))
  expr_binds (Expr-F.Text units) = binds_settled (pure (node.text_expr units)) (binds_pure (node.text_expr units))
  expr_binds Expr-F.Null = binds_settled (pure node.lone_null) (binds_pure node.lone_null)
  expr_binds (Expr-F.Variable name) = binds_settled (operand.variable vars name) (binds_variable vars name)
  expr_binds (Expr-F.System word) = binds_settled (operand.system_expr word) (λ at done. tt)
  expr_binds (Expr-F.Column table called) = binds_settled (operand.column table called) (binds_column table called)
  expr_binds (Expr-F.Expr::Parens a) = a.1
  expr_binds (Expr-F.Query select) = binds_settled (operand.scalar (query_of definitions vars select.0)) (binds_scalar (query_of definitions vars select.0) select.1)
  expr_binds (Expr-F.Case arms None) = binds_settled _ (binds_two (each_read (map (arm_of definitions vars) (map (λ p. p.0) arms))).bind (pure node.lone_null) node.case_expr (binds_parts (map (arm_of definitions vars) (map (λ p. p.0) arms)) (arms_below arms)) (binds_pure node.lone_null))
  expr_binds (Expr-F.Case arms (Some other)) = binds_settled _ (binds_two (each_read (map (arm_of definitions vars) (map (λ p. p.0) arms))).bind (expr_of definitions vars other.0).read.bind node.case_expr (binds_parts (map (arm_of definitions vars) (map (λ p. p.0) arms)) (arms_below arms)) other.1)
  expr_binds (Expr-F.Cast a kind) = binds_settled _ (binds_one (expr_of definitions vars a.0).read.bind (node.cast_expr kind) a.1)
  expr_binds (Expr-F.Expr::IsNull a b) = binds_settled _ (binds_two (expr_of definitions vars a.0).read.bind (expr_of definitions vars b.0).read.bind node.is_null_expr a.1 b.1)
  expr_binds (Expr-F.NullIf a b) = binds_settled _ (binds_two (expr_of definitions vars a.0).read.bind (expr_of definitions vars b.0).read.bind node.null_if_expr a.1 b.1)
  expr_binds (Expr-F.Coalesce items) = binds_settled _ (binds_one (each_read (map read_of (map (expr_of definitions vars) (map (λ p. p.0) items)))).bind node.coalesce_expr (binds_exprs (map (expr_of definitions vars) (map (λ p. p.0) items)) (exprs_below items)))
  expr_binds (Expr-F.Length a) = binds_settled _ (binds_one (expr_of definitions vars a.0).read.bind node.length_expr a.1)
  expr_binds Expr-F.CountRows = binds_settled operand.count_rows binds_count
  expr_binds (Expr-F.Aggregate agg distinct a) = binds_settled (operand.aggregate agg distinct (expr_of definitions vars a.0).read.bind) (binds_aggregate agg distinct (expr_of definitions vars a.0).read.bind a.1)
  expr_binds (Expr-F.Signed signs a) = binds_settled (bind.signed_from signs (expr_of definitions vars a.0).shape (expr_of definitions vars a.0).read.bind) (binds_signed signs (expr_of definitions vars a.0).shape (expr_of definitions vars a.0).read.bind a.1)
  expr_binds (Expr-F.Product first factors) = binds_settled _ (binds_then (expr_of definitions vars first.0).read.bind (λ x. bind.chain_onto x (map (factor_of definitions vars) (map (λ p. p.0) factors))) first.1
      (λ x. binds_chain x (map (factor_of definitions vars) (map (λ p. p.0) factors)) (each_below (factor_of definitions vars) (λ (a : TermRead). Binds a.read.bind) factors)))
  expr_binds (Expr-F.Sum first terms) = binds_settled _ (binds_then (expr_of definitions vars first.0).read.bind (λ x. bind.chain_onto x (map (term_of definitions vars) (map (λ p. p.0) terms))) first.1
      (λ x. binds_chain x (map (term_of definitions vars) (map (λ p. p.0) terms)) (each_below (term_of definitions vars) (λ (a : TermRead). Binds a.read.bind) terms)))

  -- ---- tests

  test_binds : (y : TestBelow) → Binds (test_step definitions vars (reads_of_Test (trees_of_Test y))).bind
  test_binds (Test-F.Test::Parens a) = a.1
  test_binds (Test-F.Exists select) = binds_exists (query_of definitions vars select.0) select.1
  test_binds (Test-F.Compare a sign b) = binds_two (expr_of definitions vars a.0).read.bind (expr_of definitions vars b.0).read.bind (tests.compare_test (bind.compare_op sign)) a.1 b.1
  test_binds (Test-F.Test::IsNull a negative) = binds_one (expr_of definitions vars a.0).read.bind (λ x. tests.negated_where negative (tests.is_null_test x)) a.1
  test_binds (Test-F.Between a negative low high) =
      binds_then (expr_of definitions vars a.0).read.bind (λ x. and_then (expr_of definitions vars low.0).read.bind (λ y. and_then (expr_of definitions vars high.0).read.bind (λ z. bind.tested negative (tests.between_test x y z)))) a.1
      (λ x. binds_two (expr_of definitions vars low.0).read.bind (expr_of definitions vars high.0).read.bind (λ y z. tests.negated_where negative (tests.between_test x y z)) low.1 high.1)
  test_binds (Test-F.InQuery a negative select) = binds_one (and_then (expr_of definitions vars a.0).read.bind (operand.in_query (query_of definitions vars select.0))) (tests.negated_where negative)
      (binds_then (expr_of definitions vars a.0).read.bind (operand.in_query (query_of definitions vars select.0)) a.1 (λ x. binds_in_query (query_of definitions vars select.0) x select.1))
  test_binds (Test-F.InList a negative items) = binds_two (expr_of definitions vars a.0).read.bind (each_read (map read_of (map (expr_of definitions vars) (map (λ p. p.0) items)))).bind (λ x xs. tests.negated_where negative (tests.in_list_test x xs)) a.1 (binds_exprs (map (expr_of definitions vars) (map (λ p. p.0) items)) (exprs_below items))
  test_binds (Test-F.Not count a) = binds_one (test_of definitions vars a.0).bind (tests.negated_where (bind.is_odd count)) a.1
  test_binds (Test-F.And first rest) = binds_joined by.And (test_of definitions vars first.0) (map (test_of definitions vars) (map (λ p. p.0) rest)) first.1 (tests_below rest)
  test_binds (Test-F.Or first rest) = binds_joined by.Or (test_of definitions vars first.0) (map (test_of definitions vars) (map (λ p. p.0) rest)) first.1 (tests_below rest)

  -- ---- selects and what stands in them

  item_binds : (y : ItemBelow) → BindsItem (item_step definitions vars (reads_of_Item (trees_of_Item y)))
  item_binds Item-F.All = tt
  item_binds (Item-F.AllOf name) = tt
  item_binds (Item-F.Assign name a) = a.1
  item_binds (Item-F.Value a alias) = a.1

  join_binds : (y : JoinBelow) → BindsJoin (join_step definitions vars (reads_of_Join (trees_of_Join y)))
  join_binds (Join-F.Comma of) = tt
  join_binds (Join-F.Inner of on) = on.1
  join_binds (Join-F.Left of on) = on.1
  join_binds (Join-F.Cross of) = tt

  arm_binds : (y : ArmBelow) → Binds (arm_step definitions vars (reads_of_Arm (trees_of_Arm y))).bind
  arm_binds y = binds_two (test_of definitions vars y.test.0).bind (expr_of definitions vars y.gives.0).read.bind (λ test gives. record { test = test; gives = gives }) y.test.1 y.gives.1

  factor_binds : (y : FactorBelow) → Binds (factor_step definitions vars (reads_of_Factor (trees_of_Factor y))).read.bind
  factor_binds y = y.operand.1

  from_binds : (y : FromClauseBelow) → BindsFrom (Some (from_step definitions vars (reads_of_FromClause (trees_of_FromClause y))))
  from_binds y = each_below (join_of definitions vars) BindsJoin y.joins

  order_binds : (y : OrderItemBelow) → Binds (order_step definitions vars (reads_of_OrderItem (trees_of_OrderItem y))).expr.read.bind
  order_binds y = y.expr.1

  term_binds : (y : TermBelow) → Binds (term_step definitions vars (reads_of_Term (trees_of_Term y))).read.bind
  term_binds y = y.operand.1

  -- the clauses of a select, its options apart
  abbrev select_with : (distinct : Bool) (top : Option ℤ) (items : List ((x : Item) × PItem x)) (groups : List ((x : Expr) × PExpr x)) (order : List ((x : OrderItem) × POrderItem x)) (from : Option FromRead) (filter having : Option (Read TypedTest)) → SelectRead
  select_with distinct top items groups order from filter having = record {
    distinct = distinct;
    top = top;
    items = map (item_of definitions vars) (map (λ p. p.0) items);
    from = from;
    filter = filter;
    groups = map (expr_of definitions vars) (map (λ p. p.0) groups);
    having = having;
    order = map (order_of definitions vars) (map (λ p. p.0) order);
  }

  select_given : (distinct : Bool) (top : Option ℤ) (items : List ((x : Item) × PItem x)) (groups : List ((x : Expr) × PExpr x)) (order : List ((x : OrderItem) × POrderItem x)) (from : Option FromRead) (filter having : Option (Read TypedTest)) → BindsFrom from → BindsTest filter → BindsTest having → Bounds (select_of definitions vars (select_with distinct top items groups order from filter having))
  select_given distinct top items groups order from filter having is_from is_filter is_having = bounds_select definitions vars (select_with distinct top items groups order from filter having) (record {
    items = each_below (item_of definitions vars) BindsItem items;
    from = is_from;
    filter = is_filter;
    groups = exprs_below groups;
    having = is_having;
    order = each_below (order_of definitions vars) (λ (o : OrderRead). Binds o.expr.read.bind) order;
  })

  select_binds : (distinct : Bool) (top : Option ℤ) (items : List ((x : Item) × PItem x)) (from : Option ((x : FromClause) × PFromClause x)) (filter : Option ((x : Test) × PTest x)) (groups : List ((x : Expr) × PExpr x)) (having : Option ((x : Test) × PTest x)) (order : List ((x : OrderItem) × POrderItem x))
      → Bounds (select_step definitions vars (reads_of_Select (trees_of_Select (record { distinct = distinct; top = top; items = items; from = from; filter = filter; groups = groups; having = having; order = order }))))
  select_binds distinct top items None None groups None order = select_given distinct top items groups order None None None tt tt tt
  select_binds distinct top items None None groups (Some having) order = select_given distinct top items groups order None None (Some (test_of definitions vars having.0)) tt tt having.1
  select_binds distinct top items None (Some filter) groups None order = select_given distinct top items groups order None (Some (test_of definitions vars filter.0)) None tt filter.1 tt
  select_binds distinct top items None (Some filter) groups (Some having) order = select_given distinct top items groups order None (Some (test_of definitions vars filter.0)) (Some (test_of definitions vars having.0)) tt filter.1 having.1
  select_binds distinct top items (Some from) None groups None order = select_given distinct top items groups order (Some (from_of definitions vars from.0)) None None from.1 tt tt
  select_binds distinct top items (Some from) None groups (Some having) order = select_given distinct top items groups order (Some (from_of definitions vars from.0)) None (Some (test_of definitions vars having.0)) from.1 tt having.1
  select_binds distinct top items (Some from) (Some filter) groups None order = select_given distinct top items groups order (Some (from_of definitions vars from.0)) (Some (test_of definitions vars filter.0)) None from.1 filter.1 tt
  select_binds distinct top items (Some from) (Some filter) groups (Some having) order = select_given distinct top items groups order (Some (from_of definitions vars from.0)) (Some (test_of definitions vars filter.0)) (Some (test_of definitions vars having.0)) from.1 filter.1 having.1

  -- ---- trees

  layer_Expr : (y : ExprBelow) → PExpr (roll-Expr (trees_of_Expr y))
  layer_Expr y = subst (λ (z : ExprRead). Binds z.read.bind) (sym (fold-roll-Expr ExprRead ItemRead JoinRead (Read TypedTest) (Read TypedArm) TermRead FromRead OrderRead (Outcome Selected) TermRead (expr_step definitions vars) (item_step definitions vars) (join_step definitions vars) (test_step definitions vars) (arm_step definitions vars) (factor_step definitions vars) (from_step definitions vars) (order_step definitions vars) (select_step definitions vars) (term_step definitions vars) (trees_of_Expr y))) (expr_binds y)

  layer_Item : (y : ItemBelow) → PItem (roll-Item (trees_of_Item y))
  layer_Item y = subst (λ (z : ItemRead). BindsItem z) (sym (fold-roll-Item ExprRead ItemRead JoinRead (Read TypedTest) (Read TypedArm) TermRead FromRead OrderRead (Outcome Selected) TermRead (expr_step definitions vars) (item_step definitions vars) (join_step definitions vars) (test_step definitions vars) (arm_step definitions vars) (factor_step definitions vars) (from_step definitions vars) (order_step definitions vars) (select_step definitions vars) (term_step definitions vars) (trees_of_Item y))) (item_binds y)

  layer_Join : (y : JoinBelow) → PJoin (roll-Join (trees_of_Join y))
  layer_Join y = subst (λ (z : JoinRead). BindsJoin z) (sym (fold-roll-Join ExprRead ItemRead JoinRead (Read TypedTest) (Read TypedArm) TermRead FromRead OrderRead (Outcome Selected) TermRead (expr_step definitions vars) (item_step definitions vars) (join_step definitions vars) (test_step definitions vars) (arm_step definitions vars) (factor_step definitions vars) (from_step definitions vars) (order_step definitions vars) (select_step definitions vars) (term_step definitions vars) (trees_of_Join y))) (join_binds y)

  layer_Test : (y : TestBelow) → PTest (roll-Test (trees_of_Test y))
  layer_Test y = subst (λ (z : Read TypedTest). Binds z.bind) (sym (fold-roll-Test ExprRead ItemRead JoinRead (Read TypedTest) (Read TypedArm) TermRead FromRead OrderRead (Outcome Selected) TermRead (expr_step definitions vars) (item_step definitions vars) (join_step definitions vars) (test_step definitions vars) (arm_step definitions vars) (factor_step definitions vars) (from_step definitions vars) (order_step definitions vars) (select_step definitions vars) (term_step definitions vars) (trees_of_Test y))) (test_binds y)

  layer_Arm : (y : ArmBelow) → PArm (roll-Arm (trees_of_Arm y))
  layer_Arm y = subst (λ (z : Read TypedArm). Binds z.bind) (sym (fold-roll-Arm ExprRead ItemRead JoinRead (Read TypedTest) (Read TypedArm) TermRead FromRead OrderRead (Outcome Selected) TermRead (expr_step definitions vars) (item_step definitions vars) (join_step definitions vars) (test_step definitions vars) (arm_step definitions vars) (factor_step definitions vars) (from_step definitions vars) (order_step definitions vars) (select_step definitions vars) (term_step definitions vars) (trees_of_Arm y))) (arm_binds y)

  layer_Factor : (y : FactorBelow) → PFactor (roll-Factor (trees_of_Factor y))
  layer_Factor y = subst (λ (z : TermRead). Binds z.read.bind) (sym (fold-roll-Factor ExprRead ItemRead JoinRead (Read TypedTest) (Read TypedArm) TermRead FromRead OrderRead (Outcome Selected) TermRead (expr_step definitions vars) (item_step definitions vars) (join_step definitions vars) (test_step definitions vars) (arm_step definitions vars) (factor_step definitions vars) (from_step definitions vars) (order_step definitions vars) (select_step definitions vars) (term_step definitions vars) (trees_of_Factor y))) (factor_binds y)

  layer_FromClause : (y : FromClauseBelow) → PFromClause (roll-FromClause (trees_of_FromClause y))
  layer_FromClause y = subst (λ (z : FromRead). BindsFrom (Some z)) (sym (fold-roll-FromClause ExprRead ItemRead JoinRead (Read TypedTest) (Read TypedArm) TermRead FromRead OrderRead (Outcome Selected) TermRead (expr_step definitions vars) (item_step definitions vars) (join_step definitions vars) (test_step definitions vars) (arm_step definitions vars) (factor_step definitions vars) (from_step definitions vars) (order_step definitions vars) (select_step definitions vars) (term_step definitions vars) (trees_of_FromClause y))) (from_binds y)

  layer_OrderItem : (y : OrderItemBelow) → POrderItem (roll-OrderItem (trees_of_OrderItem y))
  layer_OrderItem y = subst (λ (z : OrderRead). Binds z.expr.read.bind) (sym (fold-roll-OrderItem ExprRead ItemRead JoinRead (Read TypedTest) (Read TypedArm) TermRead FromRead OrderRead (Outcome Selected) TermRead (expr_step definitions vars) (item_step definitions vars) (join_step definitions vars) (test_step definitions vars) (arm_step definitions vars) (factor_step definitions vars) (from_step definitions vars) (order_step definitions vars) (select_step definitions vars) (term_step definitions vars) (trees_of_OrderItem y))) (order_binds y)

  layer_Select : (y : SelectBelow) → PSelect (roll-Select (trees_of_Select y))
  layer_Select y = subst (λ (z : Outcome Selected). Bounds z) (sym (fold-roll-Select ExprRead ItemRead JoinRead (Read TypedTest) (Read TypedArm) TermRead FromRead OrderRead (Outcome Selected) TermRead (expr_step definitions vars) (item_step definitions vars) (join_step definitions vars) (test_step definitions vars) (arm_step definitions vars) (factor_step definitions vars) (from_step definitions vars) (order_step definitions vars) (select_step definitions vars) (term_step definitions vars) (trees_of_Select y))) (select_binds y.distinct y.top y.items y.from y.filter y.groups y.having y.order)

  layer_Term : (y : TermBelow) → PTerm (roll-Term (trees_of_Term y))
  layer_Term y = subst (λ (z : TermRead). Binds z.read.bind) (sym (fold-roll-Term ExprRead ItemRead JoinRead (Read TypedTest) (Read TypedArm) TermRead FromRead OrderRead (Outcome Selected) TermRead (expr_step definitions vars) (item_step definitions vars) (join_step definitions vars) (test_step definitions vars) (arm_step definitions vars) (factor_step definitions vars) (from_step definitions vars) (order_step definitions vars) (select_step definitions vars) (term_step definitions vars) (trees_of_Term y))) (term_binds y)

  pub binds_expr : (x : Expr) → PExpr x
  binds_expr = ind-Expr PExpr PItem PJoin PTest PArm PFactor PFromClause POrderItem PSelect PTerm
      (λ x y is. subst (λ z. PExpr (roll-Expr z)) is (layer_Expr y))
      (λ x y is. subst (λ z. PItem (roll-Item z)) is (layer_Item y))
      (λ x y is. subst (λ z. PJoin (roll-Join z)) is (layer_Join y))
      (λ x y is. subst (λ z. PTest (roll-Test z)) is (layer_Test y))
      (λ x y is. subst (λ z. PArm (roll-Arm z)) is (layer_Arm y))
      (λ x y is. subst (λ z. PFactor (roll-Factor z)) is (layer_Factor y))
      (λ x y is. subst (λ z. PFromClause (roll-FromClause z)) is (layer_FromClause y))
      (λ x y is. subst (λ z. POrderItem (roll-OrderItem z)) is (layer_OrderItem y))
      (λ x y is. subst (λ z. PSelect (roll-Select z)) is (layer_Select y))
      (λ x y is. subst (λ z. PTerm (roll-Term z)) is (layer_Term y))

  pub binds_test : (x : Test) → PTest x
  binds_test = ind-Test PExpr PItem PJoin PTest PArm PFactor PFromClause POrderItem PSelect PTerm
      (λ x y is. subst (λ z. PExpr (roll-Expr z)) is (layer_Expr y))
      (λ x y is. subst (λ z. PItem (roll-Item z)) is (layer_Item y))
      (λ x y is. subst (λ z. PJoin (roll-Join z)) is (layer_Join y))
      (λ x y is. subst (λ z. PTest (roll-Test z)) is (layer_Test y))
      (λ x y is. subst (λ z. PArm (roll-Arm z)) is (layer_Arm y))
      (λ x y is. subst (λ z. PFactor (roll-Factor z)) is (layer_Factor y))
      (λ x y is. subst (λ z. PFromClause (roll-FromClause z)) is (layer_FromClause y))
      (λ x y is. subst (λ z. POrderItem (roll-OrderItem z)) is (layer_OrderItem y))
      (λ x y is. subst (λ z. PSelect (roll-Select z)) is (layer_Select y))
      (λ x y is. subst (λ z. PTerm (roll-Term z)) is (layer_Term y))

  pub bounds_query : (x : Select) → PSelect x
  bounds_query = ind-Select PExpr PItem PJoin PTest PArm PFactor PFromClause POrderItem PSelect PTerm
      (λ x y is. subst (λ z. PExpr (roll-Expr z)) is (layer_Expr y))
      (λ x y is. subst (λ z. PItem (roll-Item z)) is (layer_Item y))
      (λ x y is. subst (λ z. PJoin (roll-Join z)) is (layer_Join y))
      (λ x y is. subst (λ z. PTest (roll-Test z)) is (layer_Test y))
      (λ x y is. subst (λ z. PArm (roll-Arm z)) is (layer_Arm y))
      (λ x y is. subst (λ z. PFactor (roll-Factor z)) is (layer_Factor y))
      (λ x y is. subst (λ z. PFromClause (roll-FromClause z)) is (layer_FromClause y))
      (λ x y is. subst (λ z. POrderItem (roll-OrderItem z)) is (layer_OrderItem y))
      (λ x y is. subst (λ z. PSelect (roll-Select z)) is (layer_Select y))
      (λ x y is. subst (λ z. PTerm (roll-Term z)) is (layer_Term y))
