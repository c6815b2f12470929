-- Whatever an expression, a test or a select is, it is bound to what is well formed: by induction over trees.
use Rattle.std.proofs.Common.{refl, sym, subst, List, [], ◌∷◌, map, Option, Some, None, Bool, ℤ}
use Rattle.session_vars.specs.declared.Variable.{Variable}
use Rattle.tsql_tree.specs.declared.definition.Definition.{Definition}
use Rattle.tsql_tree.specs.declared.query.Expr.{Expr}
use Rattle.tsql_tree.specs.declared.query.Item.{Item}
use Rattle.tsql_tree.specs.declared.query.Join.{Join}
use Rattle.tsql_tree.specs.declared.query.Test.{Test}
use Rattle.tsql_tree.specs.declared.query.Arm.{Arm}
use Rattle.tsql_tree.specs.declared.query.Factor.{Factor}
use Rattle.tsql_tree.specs.declared.query.FromClause.{FromClause}
use Rattle.tsql_tree.specs.declared.query.OrderItem.{OrderItem}
use Rattle.tsql_tree.specs.declared.query.Select.{Select}
use Rattle.tsql_tree.specs.declared.query.Term.{Term}
use Rattle.tsql_tree.specs.declared.query.Expr.TheOpen.{Expr-F, Item-F, Join-F, Test-F, Arm-F, Factor-F, FromClause-F, OrderItem-F, Select-F, Term-F}
use Rattle.tsql_tree.specs.declared.query.Expr.TheFolds.{ind-Expr, ind-Test, ind-Select, map-Expr, map-Item, map-Join, map-Test, map-Arm, map-Factor, map-FromClause, map-OrderItem, map-Select, map-Term, fold-roll-Expr, fold-roll-Item, fold-roll-Join, fold-roll-Test, fold-roll-Arm, fold-roll-Factor, fold-roll-FromClause, fold-roll-OrderItem, fold-roll-Select, fold-roll-Term}
use Rattle.tsql_tree.specs.declared.query.Expr.TheViews.{roll-Expr, roll-Item, roll-Join, roll-Test, roll-Arm, roll-Factor, roll-FromClause, roll-OrderItem, roll-Select, roll-Term}
use Rattle.typed_nodes.specs.declared.test.Junction.TheVariants as by
use Rattle.typed_nodes.specs.declared.expr.TypedArm.{TypedArm}
use Rattle.typed_nodes.specs.declared.expr.TypedExpr.{TypedExpr}
use Rattle.typed_nodes.specs.declared.test.TypedTest.{TypedTest}
use Rattle.typed_nodes.specs.Refusals.{Outcome}
use Rattle.typed_nodes.specs.Nodes as node
use Rattle.typed_nodes.specs.Tests as tests
use Rattle.clause_binder.specs.declared.operand.Selected.{Selected}
use Rattle.clause_binder.specs.Progress.{Read, an_inner_query, and_then, both, just, over, pure, two}
use Rattle.clause_binder.specs.Operands.{aggregate, column, count_rows, in_query, scalar, system_expr, variable}
use Rattle.clause_binder.specs.Clauses.{ExprRead, FromRead, ItemRead, JoinRead, OrderRead}
use Rattle.clause_binder.specs.Bind.{TermRead, expr_of, item_of, join_of, test_of, arm_of, factor_of, from_of, order_of, query_of, term_of, expr_step, item_step, join_step, test_step, arm_step, factor_step, from_step, order_step, select_step, term_step, compare_op, inner, is_odd, literal, settle, summed}
use Rattle.query_laws.specs.Laws.{AllOf}
use Rattle.query_laws.proofs.FormedNodes.{between_formed, cast_formed, compare_formed, is_null_formed, is_null_test_formed, length_formed, negated_formed, null_formed, null_if_formed, text_formed}
use Rattle.query_laws.proofs.Reading.{ReadsAs, binds_pure, binds_then}
use Rattle.query_laws.proofs.BoundOperands.{FormedAt, FormedTestAt, GoodSelect, column_binds, exists_binds, in_query_leads, scalar_binds, system_binds, variable_binds}
use Rattle.query_laws.proofs.BoundSums.{aggregate_binds, count_rows_binds}
use Rattle.query_laws.proofs.BoundNodes.{GoodArm, GoodExpr, GoodTerm, GoodTest, arm_good, case_good, chain_good, coalesce_good, in_list_good, joined_good, literal_binds, negated_good, over_good, settle_binds, signed_good, three_good, test_over_good, test_two_good, two_good, unseen_good}
use Rattle.query_laws.proofs.BoundClauses.{GoodItem, GoodJoin}
use Rattle.query_laws.proofs.BoundSelects.{GoodFrom, select_good}

-- of each of a list whose trees have a property, what they are read as has it
all_below : {A B : Type 0} (f : A → B) (P : B → Type 0) (items : List ((a : A) × P (f a))) → AllOf P (map f (map (λ p. p.0) items))
all_below f P [] = tt
all_below f P (p ∷ rest) = (p.1, all_below f P rest)

module _ (definitions : List Definition) (vars : List Variable) where
  abbrev PExpr : Expr → Type 0
  PExpr x = GoodExpr definitions vars (expr_of definitions vars x)

  abbrev PItem : Item → Type 0
  PItem x = GoodItem definitions vars (item_of definitions vars x)

  abbrev PJoin : Join → Type 0
  PJoin x = GoodJoin definitions vars (join_of definitions vars x)

  abbrev PTest : Test → Type 0
  PTest x = GoodTest definitions vars (test_of definitions vars x)

  abbrev PArm : Arm → Type 0
  PArm x = GoodArm definitions vars (arm_of definitions vars x)

  abbrev PFactor : Factor → Type 0
  PFactor x = GoodTerm definitions vars (factor_of definitions vars x)

  abbrev PFromClause : FromClause → Type 0
  PFromClause x = GoodFrom definitions vars (Some (from_of definitions vars x))

  abbrev POrderItem : OrderItem → Type 0
  POrderItem x = GoodExpr definitions vars (order_of definitions vars x).expr

  abbrev PSelect : Select → Type 0
  PSelect x = GoodSelect definitions vars (query_of definitions vars x)

  abbrev PTerm : Term → Type 0
  PTerm x = GoodTerm definitions vars (term_of definitions vars x)

  abbrev ExprBelow : Type 0
  ExprBelow = Expr-F ((x : Expr) × PExpr x) ((x : Item) × PItem x) ((x : Join) × PJoin x) ((x : Test) × PTest x) ((x : Arm) × PArm x) ((x : Factor) × PFactor x) ((x : FromClause) × PFromClause x) ((x : OrderItem) × POrderItem x) ((x : Select) × PSelect x) ((x : Term) × PTerm x)

  abbrev trees_of_Expr : ExprBelow → Expr-F Expr Item Join Test Arm Factor FromClause OrderItem Select Term
  trees_of_Expr = map-Expr _ _ _ _ _ _ _ _ _ _ Expr Item Join Test Arm Factor FromClause OrderItem Select Term (λ p. p.0) (λ p. p.0) (λ p. p.0) (λ p. p.0) (λ p. p.0) (λ p. p.0) (λ p. p.0) (λ p. p.0) (λ p. p.0) (λ p. p.0)

  abbrev reads_of_Expr : Expr-F Expr Item Join Test Arm Factor FromClause OrderItem Select Term → Expr-F ExprRead ItemRead JoinRead (Read TypedTest) (Read TypedArm) TermRead FromRead OrderRead (Outcome Selected) TermRead
  reads_of_Expr = map-Expr _ _ _ _ _ _ _ _ _ _ ExprRead ItemRead JoinRead (Read TypedTest) (Read TypedArm) TermRead FromRead OrderRead (Outcome Selected) TermRead (expr_of definitions vars) (item_of definitions vars) (join_of definitions vars) (test_of definitions vars) (arm_of definitions vars) (factor_of definitions vars) (from_of definitions vars) (order_of definitions vars) (query_of definitions vars) (term_of definitions vars)

  abbrev ItemBelow : Type 0
  ItemBelow = Item-F ((x : Expr) × PExpr x) ((x : Item) × PItem x) ((x : Join) × PJoin x) ((x : Test) × PTest x) ((x : Arm) × PArm x) ((x : Factor) × PFactor x) ((x : FromClause) × PFromClause x) ((x : OrderItem) × POrderItem x) ((x : Select) × PSelect x) ((x : Term) × PTerm x)

  abbrev trees_of_Item : ItemBelow → Item-F Expr Item Join Test Arm Factor FromClause OrderItem Select Term
  trees_of_Item = map-Item _ _ _ _ _ _ _ _ _ _ Expr Item Join Test Arm Factor FromClause OrderItem Select Term (λ p. p.0) (λ p. p.0) (λ p. p.0) (λ p. p.0) (λ p. p.0) (λ p. p.0) (λ p. p.0) (λ p. p.0) (λ p. p.0) (λ p. p.0)

  abbrev reads_of_Item : Item-F Expr Item Join Test Arm Factor FromClause OrderItem Select Term → Item-F ExprRead ItemRead JoinRead (Read TypedTest) (Read TypedArm) TermRead FromRead OrderRead (Outcome Selected) TermRead
  reads_of_Item = map-Item _ _ _ _ _ _ _ _ _ _ ExprRead ItemRead JoinRead (Read TypedTest) (Read TypedArm) TermRead FromRead OrderRead (Outcome Selected) TermRead (expr_of definitions vars) (item_of definitions vars) (join_of definitions vars) (test_of definitions vars) (arm_of definitions vars) (factor_of definitions vars) (from_of definitions vars) (order_of definitions vars) (query_of definitions vars) (term_of definitions vars)

  abbrev JoinBelow : Type 0
  JoinBelow = Join-F ((x : Expr) × PExpr x) ((x : Item) × PItem x) ((x : Join) × PJoin x) ((x : Test) × PTest x) ((x : Arm) × PArm x) ((x : Factor) × PFactor x) ((x : FromClause) × PFromClause x) ((x : OrderItem) × POrderItem x) ((x : Select) × PSelect x) ((x : Term) × PTerm x)

  abbrev trees_of_Join : JoinBelow → Join-F Expr Item Join Test Arm Factor FromClause OrderItem Select Term
  trees_of_Join = map-Join _ _ _ _ _ _ _ _ _ _ Expr Item Join Test Arm Factor FromClause OrderItem Select Term (λ p. p.0) (λ p. p.0) (λ p. p.0) (λ p. p.0) (λ p. p.0) (λ p. p.0) (λ p. p.0) (λ p. p.0) (λ p. p.0) (λ p. p.0)

  abbrev reads_of_Join : Join-F Expr Item Join Test Arm Factor FromClause OrderItem Select Term → Join-F ExprRead ItemRead JoinRead (Read TypedTest) (Read TypedArm) TermRead FromRead OrderRead (Outcome Selected) TermRead
  reads_of_Join = map-Join _ _ _ _ _ _ _ _ _ _ ExprRead ItemRead JoinRead (Read TypedTest) (Read TypedArm) TermRead FromRead OrderRead (Outcome Selected) TermRead (expr_of definitions vars) (item_of definitions vars) (join_of definitions vars) (test_of definitions vars) (arm_of definitions vars) (factor_of definitions vars) (from_of definitions vars) (order_of definitions vars) (query_of definitions vars) (term_of definitions vars)

  abbrev TestBelow : Type 0
  TestBelow = Test-F ((x : Expr) × PExpr x) ((x : Item) × PItem x) ((x : Join) × PJoin x) ((x : Test) × PTest x) ((x : Arm) × PArm x) ((x : Factor) × PFactor x) ((x : FromClause) × PFromClause x) ((x : OrderItem) × POrderItem x) ((x : Select) × PSelect x) ((x : Term) × PTerm x)

  abbrev trees_of_Test : TestBelow → Test-F Expr Item Join Test Arm Factor FromClause OrderItem Select Term
  trees_of_Test = map-Test _ _ _ _ _ _ _ _ _ _ Expr Item Join Test Arm Factor FromClause OrderItem Select Term (λ p. p.0) (λ p. p.0) (λ p. p.0) (λ p. p.0) (λ p. p.0) (λ p. p.0) (λ p. p.0) (λ p. p.0) (λ p. p.0) (λ p. p.0)

  abbrev reads_of_Test : Test-F Expr Item Join Test Arm Factor FromClause OrderItem Select Term → Test-F ExprRead ItemRead JoinRead (Read TypedTest) (Read TypedArm) TermRead FromRead OrderRead (Outcome Selected) TermRead
  reads_of_Test = map-Test _ _ _ _ _ _ _ _ _ _ ExprRead ItemRead JoinRead (Read TypedTest) (Read TypedArm) TermRead FromRead OrderRead (Outcome Selected) TermRead (expr_of definitions vars) (item_of definitions vars) (join_of definitions vars) (test_of definitions vars) (arm_of definitions vars) (factor_of definitions vars) (from_of definitions vars) (order_of definitions vars) (query_of definitions vars) (term_of definitions vars)

  abbrev ArmBelow : Type 0
  ArmBelow = Arm-F ((x : Expr) × PExpr x) ((x : Item) × PItem x) ((x : Join) × PJoin x) ((x : Test) × PTest x) ((x : Arm) × PArm x) ((x : Factor) × PFactor x) ((x : FromClause) × PFromClause x) ((x : OrderItem) × POrderItem x) ((x : Select) × PSelect x) ((x : Term) × PTerm x)

  abbrev trees_of_Arm : ArmBelow → Arm-F Expr Item Join Test Arm Factor FromClause OrderItem Select Term
  trees_of_Arm = map-Arm _ _ _ _ _ _ _ _ _ _ Expr Item Join Test Arm Factor FromClause OrderItem Select Term (λ p. p.0) (λ p. p.0) (λ p. p.0) (λ p. p.0) (λ p. p.0) (λ p. p.0) (λ p. p.0) (λ p. p.0) (λ p. p.0) (λ p. p.0)

  abbrev reads_of_Arm : Arm-F Expr Item Join Test Arm Factor FromClause OrderItem Select Term → Arm-F ExprRead ItemRead JoinRead (Read TypedTest) (Read TypedArm) TermRead FromRead OrderRead (Outcome Selected) TermRead
  reads_of_Arm = map-Arm _ _ _ _ _ _ _ _ _ _ ExprRead ItemRead JoinRead (Read TypedTest) (Read TypedArm) TermRead FromRead OrderRead (Outcome Selected) TermRead (expr_of definitions vars) (item_of definitions vars) (join_of definitions vars) (test_of definitions vars) (arm_of definitions vars) (factor_of definitions vars) (from_of definitions vars) (order_of definitions vars) (query_of definitions vars) (term_of definitions vars)

  abbrev FactorBelow : Type 0
  FactorBelow = Factor-F ((x : Expr) × PExpr x) ((x : Item) × PItem x) ((x : Join) × PJoin x) ((x : Test) × PTest x) ((x : Arm) × PArm x) ((x : Factor) × PFactor x) ((x : FromClause) × PFromClause x) ((x : OrderItem) × POrderItem x) ((x : Select) × PSelect x) ((x : Term) × PTerm x)

  abbrev trees_of_Factor : FactorBelow → Factor-F Expr Item Join Test Arm Factor FromClause OrderItem Select Term
  trees_of_Factor = map-Factor _ _ _ _ _ _ _ _ _ _ Expr Item Join Test Arm Factor FromClause OrderItem Select Term (λ p. p.0) (λ p. p.0) (λ p. p.0) (λ p. p.0) (λ p. p.0) (λ p. p.0) (λ p. p.0) (λ p. p.0) (λ p. p.0) (λ p. p.0)

  abbrev reads_of_Factor : Factor-F Expr Item Join Test Arm Factor FromClause OrderItem Select Term → Factor-F ExprRead ItemRead JoinRead (Read TypedTest) (Read TypedArm) TermRead FromRead OrderRead (Outcome Selected) TermRead
  reads_of_Factor = map-Factor _ _ _ _ _ _ _ _ _ _ ExprRead ItemRead JoinRead (Read TypedTest) (Read TypedArm) TermRead FromRead OrderRead (Outcome Selected) TermRead (expr_of definitions vars) (item_of definitions vars) (join_of definitions vars) (test_of definitions vars) (arm_of definitions vars) (factor_of definitions vars) (from_of definitions vars) (order_of definitions vars) (query_of definitions vars) (term_of definitions vars)

  abbrev FromClauseBelow : Type 0
  FromClauseBelow = FromClause-F ((x : Expr) × PExpr x) ((x : Item) × PItem x) ((x : Join) × PJoin x) ((x : Test) × PTest x) ((x : Arm) × PArm x) ((x : Factor) × PFactor x) ((x : FromClause) × PFromClause x) ((x : OrderItem) × POrderItem x) ((x : Select) × PSelect x) ((x : Term) × PTerm x)

  abbrev trees_of_FromClause : FromClauseBelow → FromClause-F Expr Item Join Test Arm Factor FromClause OrderItem Select Term
  trees_of_FromClause = map-FromClause _ _ _ _ _ _ _ _ _ _ Expr Item Join Test Arm Factor FromClause OrderItem Select Term (λ p. p.0) (λ p. p.0) (λ p. p.0) (λ p. p.0) (λ p. p.0) (λ p. p.0) (λ p. p.0) (λ p. p.0) (λ p. p.0) (λ p. p.0)

  abbrev reads_of_FromClause : FromClause-F Expr Item Join Test Arm Factor FromClause OrderItem Select Term → FromClause-F ExprRead ItemRead JoinRead (Read TypedTest) (Read TypedArm) TermRead FromRead OrderRead (Outcome Selected) TermRead
  reads_of_FromClause = map-FromClause _ _ _ _ _ _ _ _ _ _ ExprRead ItemRead JoinRead (Read TypedTest) (Read TypedArm) TermRead FromRead OrderRead (Outcome Selected) TermRead (expr_of definitions vars) (item_of definitions vars) (join_of definitions vars) (test_of definitions vars) (arm_of definitions vars) (factor_of definitions vars) (from_of definitions vars) (order_of definitions vars) (query_of definitions vars) (term_of definitions vars)

  abbrev OrderItemBelow : Type 0
  OrderItemBelow = OrderItem-F ((x : Expr) × PExpr x) ((x : Item) × PItem x) ((x : Join) × PJoin x) ((x : Test) × PTest x) ((x : Arm) × PArm x) ((x : Factor) × PFactor x) ((x : FromClause) × PFromClause x) ((x : OrderItem) × POrderItem x) ((x : Select) × PSelect x) ((x : Term) × PTerm x)

  abbrev trees_of_OrderItem : OrderItemBelow → OrderItem-F Expr Item Join Test Arm Factor FromClause OrderItem Select Term
  trees_of_OrderItem = map-OrderItem _ _ _ _ _ _ _ _ _ _ Expr Item Join Test Arm Factor FromClause OrderItem Select Term (λ p. p.0) (λ p. p.0) (λ p. p.0) (λ p. p.0) (λ p. p.0) (λ p. p.0) (λ p. p.0) (λ p. p.0) (λ p. p.0) (λ p. p.0)

  abbrev reads_of_OrderItem : OrderItem-F Expr Item Join Test Arm Factor FromClause OrderItem Select Term → OrderItem-F ExprRead ItemRead JoinRead (Read TypedTest) (Read TypedArm) TermRead FromRead OrderRead (Outcome Selected) TermRead
  reads_of_OrderItem = map-OrderItem _ _ _ _ _ _ _ _ _ _ ExprRead ItemRead JoinRead (Read TypedTest) (Read TypedArm) TermRead FromRead OrderRead (Outcome Selected) TermRead (expr_of definitions vars) (item_of definitions vars) (join_of definitions vars) (test_of definitions vars) (arm_of definitions vars) (factor_of definitions vars) (from_of definitions vars) (order_of definitions vars) (query_of definitions vars) (term_of definitions vars)

  abbrev SelectBelow : Type 0
  SelectBelow = Select-F ((x : Expr) × PExpr x) ((x : Item) × PItem x) ((x : Join) × PJoin x) ((x : Test) × PTest x) ((x : Arm) × PArm x) ((x : Factor) × PFactor x) ((x : FromClause) × PFromClause x) ((x : OrderItem) × POrderItem x) ((x : Select) × PSelect x) ((x : Term) × PTerm x)

  abbrev trees_of_Select : SelectBelow → Select-F Expr Item Join Test Arm Factor FromClause OrderItem Select Term
  trees_of_Select = map-Select _ _ _ _ _ _ _ _ _ _ Expr Item Join Test Arm Factor FromClause OrderItem Select Term (λ p. p.0) (λ p. p.0) (λ p. p.0) (λ p. p.0) (λ p. p.0) (λ p. p.0) (λ p. p.0) (λ p. p.0) (λ p. p.0) (λ p. p.0)

  abbrev reads_of_Select : Select-F Expr Item Join Test Arm Factor FromClause OrderItem Select Term → Select-F ExprRead ItemRead JoinRead (Read TypedTest) (Read TypedArm) TermRead FromRead OrderRead (Outcome Selected) TermRead
  reads_of_Select = map-Select _ _ _ _ _ _ _ _ _ _ ExprRead ItemRead JoinRead (Read TypedTest) (Read TypedArm) TermRead FromRead OrderRead (Outcome Selected) TermRead (expr_of definitions vars) (item_of definitions vars) (join_of definitions vars) (test_of definitions vars) (arm_of definitions vars) (factor_of definitions vars) (from_of definitions vars) (order_of definitions vars) (query_of definitions vars) (term_of definitions vars)

  abbrev TermBelow : Type 0
  TermBelow = Term-F ((x : Expr) × PExpr x) ((x : Item) × PItem x) ((x : Join) × PJoin x) ((x : Test) × PTest x) ((x : Arm) × PArm x) ((x : Factor) × PFactor x) ((x : FromClause) × PFromClause x) ((x : OrderItem) × POrderItem x) ((x : Select) × PSelect x) ((x : Term) × PTerm x)

  abbrev trees_of_Term : TermBelow → Term-F Expr Item Join Test Arm Factor FromClause OrderItem Select Term
  trees_of_Term = map-Term _ _ _ _ _ _ _ _ _ _ Expr Item Join Test Arm Factor FromClause OrderItem Select Term (λ p. p.0) (λ p. p.0) (λ p. p.0) (λ p. p.0) (λ p. p.0) (λ p. p.0) (λ p. p.0) (λ p. p.0) (λ p. p.0) (λ p. p.0)

  abbrev reads_of_Term : Term-F Expr Item Join Test Arm Factor FromClause OrderItem Select Term → Term-F ExprRead ItemRead JoinRead (Read TypedTest) (Read TypedArm) TermRead FromRead OrderRead (Outcome Selected) TermRead
  reads_of_Term = map-Term _ _ _ _ _ _ _ _ _ _ ExprRead ItemRead JoinRead (Read TypedTest) (Read TypedArm) TermRead FromRead OrderRead (Outcome Selected) TermRead (expr_of definitions vars) (item_of definitions vars) (join_of definitions vars) (test_of definitions vars) (arm_of definitions vars) (factor_of definitions vars) (from_of definitions vars) (order_of definitions vars) (query_of definitions vars) (term_of definitions vars)

  -- ---- expressions

  -- what is read without looking at its parts
  settled_leaf : (a : Read TypedExpr) → ReadsAs definitions vars (FormedAt definitions vars) a → ReadsAs definitions vars (FormedAt definitions vars) (over a settle)
  settled_leaf a h = settle_binds definitions vars a.inside a.bind h

  expr_good : (y : ExprBelow) → GoodExpr definitions vars (expr_step definitions vars (reads_of_Expr (trees_of_Expr y)))
  expr_good (Expr-F.Number n) = record { reads = settled_leaf (just (pure (literal n))) (literal_binds definitions vars n); shaped = refl }
  expr_good (Expr-F.Text units) = unseen_good definitions vars (just (pure (node.text_expr units))) (binds_pure definitions vars (FormedAt definitions vars) (node.text_expr units) (λ at done types r. text_formed types units))
  expr_good Expr-F.Null = record { reads = settled_leaf (just (pure node.lone_null)) (binds_pure definitions vars (FormedAt definitions vars) node.lone_null (λ at done types r. null_formed types)); shaped = refl }
  expr_good (Expr-F.Variable name) = unseen_good definitions vars (just (variable vars name)) (variable_binds definitions vars name)
  expr_good (Expr-F.System word) = unseen_good definitions vars (just (system_expr word)) (system_binds definitions vars word)
  expr_good (Expr-F.Column None called) = record { reads = settled_leaf (just (column None called)) (column_binds definitions vars None called); shaped = refl }
  expr_good (Expr-F.Column (Some table) called) = record { reads = settled_leaf (just (column (Some table) called)) (column_binds definitions vars (Some table) called); shaped = tt }
  expr_good (Expr-F.Expr::Parens a) = record { reads = a.1.reads; shaped = tt }
  expr_good (Expr-F.Query select) = unseen_good definitions vars (inner (scalar (query_of definitions vars select.0))) (scalar_binds definitions vars (query_of definitions vars select.0) select.1)
  expr_good (Expr-F.Case arms None) = case_good definitions vars (map (arm_of definitions vars) (map (λ p. p.0) arms)) None (all_below (arm_of definitions vars) (GoodArm definitions vars) arms) tt
  expr_good (Expr-F.Case arms (Some other)) = case_good definitions vars (map (arm_of definitions vars) (map (λ p. p.0) arms)) (Some (expr_of definitions vars other.0)) (all_below (arm_of definitions vars) (GoodArm definitions vars) arms) other.1
  expr_good (Expr-F.Cast a kind) = unseen_good definitions vars (over (expr_of definitions vars a.0).read (λ bind. and_then bind (λ x. pure (node.cast_expr kind x)))) (over_good definitions vars (expr_of definitions vars a.0) (node.cast_expr kind) a.1 (λ types x h. cast_formed types kind x h))
  expr_good (Expr-F.Expr::IsNull a b) = unseen_good definitions vars (two (expr_of definitions vars a.0).read (expr_of definitions vars b.0).read (λ x y. pure (node.is_null_expr x y))) (two_good definitions vars (expr_of definitions vars a.0) (expr_of definitions vars b.0) node.is_null_expr a.1 b.1 (λ types x y h g. is_null_formed types x y h g))
  expr_good (Expr-F.NullIf a b) = unseen_good definitions vars (two (expr_of definitions vars a.0).read (expr_of definitions vars b.0).read (λ x y. pure (node.null_if_expr x y))) (two_good definitions vars (expr_of definitions vars a.0) (expr_of definitions vars b.0) node.null_if_expr a.1 b.1 (λ types x y h g. null_if_formed types x y h g))
  expr_good (Expr-F.Coalesce items) = coalesce_good definitions vars (map (expr_of definitions vars) (map (λ p. p.0) items)) (all_below (expr_of definitions vars) (GoodExpr definitions vars) items)
  expr_good (Expr-F.Length a) = unseen_good definitions vars (over (expr_of definitions vars a.0).read (λ bind. and_then bind (λ x. pure (node.length_expr x)))) (over_good definitions vars (expr_of definitions vars a.0) node.length_expr a.1 (λ types x h. length_formed types x h))
  expr_good Expr-F.CountRows = unseen_good definitions vars (summed (just count_rows)) (count_rows_binds definitions vars)
  expr_good (Expr-F.Aggregate agg distinct a) = unseen_good definitions vars (summed (over (expr_of definitions vars a.0).read (aggregate agg distinct))) (aggregate_binds definitions vars agg distinct (expr_of definitions vars a.0).read.inside (expr_of definitions vars a.0).read.bind a.1.reads)
  expr_good (Expr-F.Signed signs a) = signed_good definitions vars signs (expr_of definitions vars a.0) a.1
  expr_good (Expr-F.Product first factors) = chain_good definitions vars (expr_of definitions vars first.0) (map (factor_of definitions vars) (map (λ p. p.0) factors)) first.1 (all_below (factor_of definitions vars) (GoodTerm definitions vars) factors)
  expr_good (Expr-F.Sum first terms) = chain_good definitions vars (expr_of definitions vars first.0) (map (term_of definitions vars) (map (λ p. p.0) terms)) first.1 (all_below (term_of definitions vars) (GoodTerm definitions vars) terms)

  -- ---- tests

  test_good : (y : TestBelow) → GoodTest definitions vars (test_step definitions vars (reads_of_Test (trees_of_Test y)))
  test_good (Test-F.Test::Parens a) = a.1
  test_good (Test-F.Exists select) = exists_binds definitions vars (query_of definitions vars select.0) select.1
  test_good (Test-F.Compare a sign b) = test_two_good definitions vars (expr_of definitions vars a.0) (expr_of definitions vars b.0) (tests.compare_test (compare_op sign)) a.1 b.1 (λ types x y h g. compare_formed types (compare_op sign) x y h g)
  test_good (Test-F.Test::IsNull a negative) = test_over_good definitions vars (expr_of definitions vars a.0) (λ x. tests.negated_where negative (tests.is_null_test x)) a.1 (λ types x h. negated_formed types negative (tests.is_null_test x) (is_null_test_formed types x h))
  test_good (Test-F.Between a negative low high) = three_good definitions vars (expr_of definitions vars a.0) (expr_of definitions vars low.0) (expr_of definitions vars high.0) (λ x y z. tests.negated_where negative (tests.between_test x y z)) a.1 low.1 high.1
      (λ types x y z h g f. negated_formed types negative (tests.between_test x y z) (between_formed types x y z h g f))
  test_good (Test-F.InQuery a negative select) = negated_good definitions vars negative (record { inside = both (expr_of definitions vars a.0).read.inside an_inner_query; bind = and_then (expr_of definitions vars a.0).read.bind (in_query (query_of definitions vars select.0)) })
      (binds_then definitions vars (FormedAt definitions vars) (FormedTestAt definitions vars) (expr_of definitions vars a.0).read.inside an_inner_query (expr_of definitions vars a.0).read.bind (in_query (query_of definitions vars select.0)) a.1.reads (in_query_leads definitions vars (query_of definitions vars select.0) select.1))
  test_good (Test-F.InList a negative items) = in_list_good definitions vars negative (expr_of definitions vars a.0) (map (expr_of definitions vars) (map (λ p. p.0) items)) a.1 (all_below (expr_of definitions vars) (GoodExpr definitions vars) items)
  test_good (Test-F.Not count a) = negated_good definitions vars (is_odd count) (test_of definitions vars a.0) a.1
  test_good (Test-F.And first rest) = joined_good definitions vars by.And (test_of definitions vars first.0) (map (test_of definitions vars) (map (λ p. p.0) rest)) first.1 (all_below (test_of definitions vars) (GoodTest definitions vars) rest)
  test_good (Test-F.Or first rest) = joined_good definitions vars by.Or (test_of definitions vars first.0) (map (test_of definitions vars) (map (λ p. p.0) rest)) first.1 (all_below (test_of definitions vars) (GoodTest definitions vars) rest)

  -- ---- selects and what stands in them

  item_good : (y : ItemBelow) → GoodItem definitions vars (item_step definitions vars (reads_of_Item (trees_of_Item y)))
  item_good Item-F.All = tt
  item_good (Item-F.AllOf name) = tt
  item_good (Item-F.Assign name a) = a.1
  item_good (Item-F.Value a alias) = a.1

  join_good : (y : JoinBelow) → GoodJoin definitions vars (join_step definitions vars (reads_of_Join (trees_of_Join y)))
  join_good (Join-F.Comma of) = tt
  join_good (Join-F.Inner of on) = on.1
  join_good (Join-F.Left of on) = on.1
  join_good (Join-F.Cross of) = tt

  orders_good : (order : List ((o : OrderItem) × POrderItem o)) → AllOf (λ by. GoodExpr definitions vars by.expr) (map (order_of definitions vars) (map (λ p. p.0) order))
  orders_good [] = tt
  orders_good (o ∷ rest) = (o.1, orders_good rest)

  joins_good : (joins : List ((j : Join) × PJoin j)) → AllOf (GoodJoin definitions vars) (map (join_of definitions vars) (map (λ p. p.0) joins))
  joins_good joins = all_below (join_of definitions vars) (GoodJoin definitions vars) joins

  query_parts : (distinct : Bool) (top : Option ℤ) (items : List ((x : Item) × PItem x)) (from : Option ((x : FromClause) × PFromClause x)) (filter : Option ((x : Test) × PTest x)) (groups : List ((x : Expr) × PExpr x))
      (having : Option ((x : Test) × PTest x)) (order : List ((x : OrderItem) × POrderItem x)) → GoodSelect definitions vars (select_step definitions vars (reads_of_Select (trees_of_Select
      (record { distinct = distinct; top = top; items = items; from = from; filter = filter; groups = groups; having = having; order = order }))))
  query_parts distinct top items None None groups None order = select_good definitions vars (record { distinct = distinct; top = top; items = map (item_of definitions vars) (map (λ p. p.0) items); from = None; filter = None; groups = map (expr_of definitions vars) (map (λ p. p.0) groups); having = None; order = map (order_of definitions vars) (map (λ p. p.0) order) })
      (record { items = all_below (item_of definitions vars) (GoodItem definitions vars) items; from = tt; filter = tt; groups = all_below (expr_of definitions vars) (GoodExpr definitions vars) groups; having = tt; order = orders_good order })
  query_parts distinct top items None None groups (Some h) order = select_good definitions vars (record { distinct = distinct; top = top; items = map (item_of definitions vars) (map (λ p. p.0) items); from = None; filter = None; groups = map (expr_of definitions vars) (map (λ p. p.0) groups); having = Some (test_of definitions vars h.0); order = map (order_of definitions vars) (map (λ p. p.0) order) })
      (record { items = all_below (item_of definitions vars) (GoodItem definitions vars) items; from = tt; filter = tt; groups = all_below (expr_of definitions vars) (GoodExpr definitions vars) groups; having = h.1; order = orders_good order })
  query_parts distinct top items None (Some w) groups None order = select_good definitions vars (record { distinct = distinct; top = top; items = map (item_of definitions vars) (map (λ p. p.0) items); from = None; filter = Some (test_of definitions vars w.0); groups = map (expr_of definitions vars) (map (λ p. p.0) groups); having = None; order = map (order_of definitions vars) (map (λ p. p.0) order) })
      (record { items = all_below (item_of definitions vars) (GoodItem definitions vars) items; from = tt; filter = w.1; groups = all_below (expr_of definitions vars) (GoodExpr definitions vars) groups; having = tt; order = orders_good order })
  query_parts distinct top items None (Some w) groups (Some h) order = select_good definitions vars (record { distinct = distinct; top = top; items = map (item_of definitions vars) (map (λ p. p.0) items); from = None; filter = Some (test_of definitions vars w.0); groups = map (expr_of definitions vars) (map (λ p. p.0) groups); having = Some (test_of definitions vars h.0); order = map (order_of definitions vars) (map (λ p. p.0) order) })
      (record { items = all_below (item_of definitions vars) (GoodItem definitions vars) items; from = tt; filter = w.1; groups = all_below (expr_of definitions vars) (GoodExpr definitions vars) groups; having = h.1; order = orders_good order })
  query_parts distinct top items (Some f) None groups None order = select_good definitions vars (record { distinct = distinct; top = top; items = map (item_of definitions vars) (map (λ p. p.0) items); from = Some (from_of definitions vars f.0); filter = None; groups = map (expr_of definitions vars) (map (λ p. p.0) groups); having = None; order = map (order_of definitions vars) (map (λ p. p.0) order) })
      (record { items = all_below (item_of definitions vars) (GoodItem definitions vars) items; from = f.1; filter = tt; groups = all_below (expr_of definitions vars) (GoodExpr definitions vars) groups; having = tt; order = orders_good order })
  query_parts distinct top items (Some f) None groups (Some h) order = select_good definitions vars (record { distinct = distinct; top = top; items = map (item_of definitions vars) (map (λ p. p.0) items); from = Some (from_of definitions vars f.0); filter = None; groups = map (expr_of definitions vars) (map (λ p. p.0) groups); having = Some (test_of definitions vars h.0); order = map (order_of definitions vars) (map (λ p. p.0) order) })
      (record { items = all_below (item_of definitions vars) (GoodItem definitions vars) items; from = f.1; filter = tt; groups = all_below (expr_of definitions vars) (GoodExpr definitions vars) groups; having = h.1; order = orders_good order })
  query_parts distinct top items (Some f) (Some w) groups None order = select_good definitions vars (record { distinct = distinct; top = top; items = map (item_of definitions vars) (map (λ p. p.0) items); from = Some (from_of definitions vars f.0); filter = Some (test_of definitions vars w.0); groups = map (expr_of definitions vars) (map (λ p. p.0) groups); having = None; order = map (order_of definitions vars) (map (λ p. p.0) order) })
      (record { items = all_below (item_of definitions vars) (GoodItem definitions vars) items; from = f.1; filter = w.1; groups = all_below (expr_of definitions vars) (GoodExpr definitions vars) groups; having = tt; order = orders_good order })
  query_parts distinct top items (Some f) (Some w) groups (Some h) order = select_good definitions vars (record { distinct = distinct; top = top; items = map (item_of definitions vars) (map (λ p. p.0) items); from = Some (from_of definitions vars f.0); filter = Some (test_of definitions vars w.0); groups = map (expr_of definitions vars) (map (λ p. p.0) groups); having = Some (test_of definitions vars h.0); order = map (order_of definitions vars) (map (λ p. p.0) order) })
      (record { items = all_below (item_of definitions vars) (GoodItem definitions vars) items; from = f.1; filter = w.1; groups = all_below (expr_of definitions vars) (GoodExpr definitions vars) groups; having = h.1; order = orders_good order })

  query_good : (y : SelectBelow) → GoodSelect definitions vars (select_step definitions vars (reads_of_Select (trees_of_Select y)))
  query_good y = query_parts y.distinct y.top y.items y.from y.filter y.groups y.having y.order

  -- ---- trees

  layer_Expr : (y : ExprBelow) → PExpr (roll-Expr (trees_of_Expr y))
  layer_Expr y = subst (GoodExpr definitions vars) (sym (fold-roll-Expr ExprRead ItemRead JoinRead (Read TypedTest) (Read TypedArm) TermRead FromRead OrderRead (Outcome Selected) TermRead (expr_step definitions vars) (item_step definitions vars) (join_step definitions vars) (test_step definitions vars) (arm_step definitions vars) (factor_step definitions vars) (from_step definitions vars) (order_step definitions vars) (select_step definitions vars) (term_step definitions vars) (trees_of_Expr y))) (expr_good y)

  layer_Item : (y : ItemBelow) → PItem (roll-Item (trees_of_Item y))
  layer_Item y = subst (GoodItem definitions vars) (sym (fold-roll-Item ExprRead ItemRead JoinRead (Read TypedTest) (Read TypedArm) TermRead FromRead OrderRead (Outcome Selected) TermRead (expr_step definitions vars) (item_step definitions vars) (join_step definitions vars) (test_step definitions vars) (arm_step definitions vars) (factor_step definitions vars) (from_step definitions vars) (order_step definitions vars) (select_step definitions vars) (term_step definitions vars) (trees_of_Item y))) (item_good y)

  layer_Join : (y : JoinBelow) → PJoin (roll-Join (trees_of_Join y))
  layer_Join y = subst (GoodJoin definitions vars) (sym (fold-roll-Join ExprRead ItemRead JoinRead (Read TypedTest) (Read TypedArm) TermRead FromRead OrderRead (Outcome Selected) TermRead (expr_step definitions vars) (item_step definitions vars) (join_step definitions vars) (test_step definitions vars) (arm_step definitions vars) (factor_step definitions vars) (from_step definitions vars) (order_step definitions vars) (select_step definitions vars) (term_step definitions vars) (trees_of_Join y))) (join_good y)

  layer_Test : (y : TestBelow) → PTest (roll-Test (trees_of_Test y))
  layer_Test y = subst (GoodTest definitions vars) (sym (fold-roll-Test ExprRead ItemRead JoinRead (Read TypedTest) (Read TypedArm) TermRead FromRead OrderRead (Outcome Selected) TermRead (expr_step definitions vars) (item_step definitions vars) (join_step definitions vars) (test_step definitions vars) (arm_step definitions vars) (factor_step definitions vars) (from_step definitions vars) (order_step definitions vars) (select_step definitions vars) (term_step definitions vars) (trees_of_Test y))) (test_good y)

  layer_Arm : (y : ArmBelow) → PArm (roll-Arm (trees_of_Arm y))
  layer_Arm y = subst (GoodArm definitions vars) (sym (fold-roll-Arm ExprRead ItemRead JoinRead (Read TypedTest) (Read TypedArm) TermRead FromRead OrderRead (Outcome Selected) TermRead (expr_step definitions vars) (item_step definitions vars) (join_step definitions vars) (test_step definitions vars) (arm_step definitions vars) (factor_step definitions vars) (from_step definitions vars) (order_step definitions vars) (select_step definitions vars) (term_step definitions vars) (trees_of_Arm y))) (arm_good definitions vars (test_of definitions vars y.test.0) (expr_of definitions vars y.gives.0) y.test.1 y.gives.1)

  layer_Factor : (y : FactorBelow) → PFactor (roll-Factor (trees_of_Factor y))
  layer_Factor y = subst (GoodTerm definitions vars) (sym (fold-roll-Factor ExprRead ItemRead JoinRead (Read TypedTest) (Read TypedArm) TermRead FromRead OrderRead (Outcome Selected) TermRead (expr_step definitions vars) (item_step definitions vars) (join_step definitions vars) (test_step definitions vars) (arm_step definitions vars) (factor_step definitions vars) (from_step definitions vars) (order_step definitions vars) (select_step definitions vars) (term_step definitions vars) (trees_of_Factor y))) (y.operand.1.reads)

  layer_FromClause : (y : FromClauseBelow) → PFromClause (roll-FromClause (trees_of_FromClause y))
  layer_FromClause y = subst (λ x. GoodFrom definitions vars (Some x)) (sym (fold-roll-FromClause ExprRead ItemRead JoinRead (Read TypedTest) (Read TypedArm) TermRead FromRead OrderRead (Outcome Selected) TermRead (expr_step definitions vars) (item_step definitions vars) (join_step definitions vars) (test_step definitions vars) (arm_step definitions vars) (factor_step definitions vars) (from_step definitions vars) (order_step definitions vars) (select_step definitions vars) (term_step definitions vars) (trees_of_FromClause y))) (joins_good y.joins)

  layer_OrderItem : (y : OrderItemBelow) → POrderItem (roll-OrderItem (trees_of_OrderItem y))
  layer_OrderItem y = subst (λ x. GoodExpr definitions vars x.expr) (sym (fold-roll-OrderItem ExprRead ItemRead JoinRead (Read TypedTest) (Read TypedArm) TermRead FromRead OrderRead (Outcome Selected) TermRead (expr_step definitions vars) (item_step definitions vars) (join_step definitions vars) (test_step definitions vars) (arm_step definitions vars) (factor_step definitions vars) (from_step definitions vars) (order_step definitions vars) (select_step definitions vars) (term_step definitions vars) (trees_of_OrderItem y))) (y.expr.1)

  layer_Select : (y : SelectBelow) → PSelect (roll-Select (trees_of_Select y))
  layer_Select y = subst (GoodSelect definitions vars) (sym (fold-roll-Select ExprRead ItemRead JoinRead (Read TypedTest) (Read TypedArm) TermRead FromRead OrderRead (Outcome Selected) TermRead (expr_step definitions vars) (item_step definitions vars) (join_step definitions vars) (test_step definitions vars) (arm_step definitions vars) (factor_step definitions vars) (from_step definitions vars) (order_step definitions vars) (select_step definitions vars) (term_step definitions vars) (trees_of_Select y))) (query_good y)

  layer_Term : (y : TermBelow) → PTerm (roll-Term (trees_of_Term y))
  layer_Term y = subst (GoodTerm definitions vars) (sym (fold-roll-Term ExprRead ItemRead JoinRead (Read TypedTest) (Read TypedArm) TermRead FromRead OrderRead (Outcome Selected) TermRead (expr_step definitions vars) (item_step definitions vars) (join_step definitions vars) (test_step definitions vars) (arm_step definitions vars) (factor_step definitions vars) (from_step definitions vars) (order_step definitions vars) (select_step definitions vars) (term_step definitions vars) (trees_of_Term y))) (y.operand.1.reads)

  pub expr_bound : (x : Expr) → PExpr x
  expr_bound = ind-Expr PExpr PItem PJoin PTest PArm PFactor PFromClause POrderItem PSelect PTerm
      (λ x y is. subst (λ z. PExpr (roll-Expr z)) is (layer_Expr y))
      (λ x y is. subst (λ z. PItem (roll-Item z)) is (layer_Item y))
      (λ x y is. subst (λ z. PJoin (roll-Join z)) is (layer_Join y))
      (λ x y is. subst (λ z. PTest (roll-Test z)) is (layer_Test y))
      (λ x y is. subst (λ z. PArm (roll-Arm z)) is (layer_Arm y))
      (λ x y is. subst (λ z. PFactor (roll-Factor z)) is (layer_Factor y))
      (λ x y is. subst (λ z. PFromClause (roll-FromClause z)) is (layer_FromClause y))
      (λ x y is. subst (λ z. POrderItem (roll-OrderItem z)) is (layer_OrderItem y))
      (λ x y is. subst (λ z. PSelect (roll-Select z)) is (layer_Select y))
      (λ x y is. subst (λ z. PTerm (roll-Term z)) is (layer_Term y))

  pub test_bound : (x : Test) → PTest x
  test_bound = ind-Test PExpr PItem PJoin PTest PArm PFactor PFromClause POrderItem PSelect PTerm
      (λ x y is. subst (λ z. PExpr (roll-Expr z)) is (layer_Expr y))
      (λ x y is. subst (λ z. PItem (roll-Item z)) is (layer_Item y))
      (λ x y is. subst (λ z. PJoin (roll-Join z)) is (layer_Join y))
      (λ x y is. subst (λ z. PTest (roll-Test z)) is (layer_Test y))
      (λ x y is. subst (λ z. PArm (roll-Arm z)) is (layer_Arm y))
      (λ x y is. subst (λ z. PFactor (roll-Factor z)) is (layer_Factor y))
      (λ x y is. subst (λ z. PFromClause (roll-FromClause z)) is (layer_FromClause y))
      (λ x y is. subst (λ z. POrderItem (roll-OrderItem z)) is (layer_OrderItem y))
      (λ x y is. subst (λ z. PSelect (roll-Select z)) is (layer_Select y))
      (λ x y is. subst (λ z. PTerm (roll-Term z)) is (layer_Term y))

  pub query_bound : (x : Select) → PSelect x
  query_bound = ind-Select PExpr PItem PJoin PTest PArm PFactor PFromClause POrderItem PSelect PTerm
      (λ x y is. subst (λ z. PExpr (roll-Expr z)) is (layer_Expr y))
      (λ x y is. subst (λ z. PItem (roll-Item z)) is (layer_Item y))
      (λ x y is. subst (λ z. PJoin (roll-Join z)) is (layer_Join y))
      (λ x y is. subst (λ z. PTest (roll-Test z)) is (layer_Test y))
      (λ x y is. subst (λ z. PArm (roll-Arm z)) is (layer_Arm y))
      (λ x y is. subst (λ z. PFactor (roll-Factor z)) is (layer_Factor y))
      (λ x y is. subst (λ z. PFromClause (roll-FromClause z)) is (layer_FromClause y))
      (λ x y is. subst (λ z. POrderItem (roll-OrderItem z)) is (layer_OrderItem y))
      (λ x y is. subst (λ z. PSelect (roll-Select z)) is (layer_Select y))
      (λ x y is. subst (λ z. PTerm (roll-Term z)) is (layer_Term y))
