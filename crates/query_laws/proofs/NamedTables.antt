-- Whatever an expression, a test or a select is, what it is bound to reads tables that it names, and no others: by
-- induction over trees, whose names and whose bound trees are looked at side by side.
use Rattle.std.proofs.Common.{◌≡◌, refl, sym, subst, ℕ, List, [], ◌∷◌, ◌++◌, map, Option, Some, None, Bool, true, false, ℤ}
use Rattle.std.specs.Prelude.{◌||◌}
use Rattle.value_types.specs.Units.{same_units}
use Rattle.session_vars.specs.declared.Variable.{Variable}
use Rattle.tsql_tree.specs.declared.definition.Definition.{Definition}
use Rattle.tsql_tree.specs.declared.query.Expr.{Expr}
use Rattle.tsql_tree.specs.declared.query.Item.{Item}
use Rattle.tsql_tree.specs.declared.query.Join.{Join}
use Rattle.tsql_tree.specs.declared.query.Test.{Test}
use Rattle.tsql_tree.specs.declared.query.Arm.{Arm}
use Rattle.tsql_tree.specs.declared.query.Factor.{Factor}
use Rattle.tsql_tree.specs.declared.query.FromClause.{FromClause}
use Rattle.tsql_tree.specs.declared.query.OrderItem.{OrderItem}
use Rattle.tsql_tree.specs.declared.query.Select.{Select}
use Rattle.tsql_tree.specs.declared.query.Term.{Term}
use Rattle.tsql_tree.specs.declared.query.Expr.TheOpen.{Expr-F, Item-F, Join-F, Test-F, Arm-F, Factor-F, FromClause-F, OrderItem-F, Select-F, Term-F}
use Rattle.tsql_tree.specs.declared.query.Expr.TheFolds.{ind-Select, map-Expr, map-Item, map-Join, map-Test, map-Arm, map-Factor, map-FromClause, map-OrderItem, map-Select, map-Term, fold-roll-Expr, fold-roll-Item, fold-roll-Join, fold-roll-Test, fold-roll-Arm, fold-roll-Factor, fold-roll-FromClause, fold-roll-OrderItem, fold-roll-Select, fold-roll-Term}
use Rattle.tsql_tree.specs.declared.query.Expr.TheViews.{roll-Expr, roll-Item, roll-Join, roll-Test, roll-Arm, roll-Factor, roll-FromClause, roll-OrderItem, roll-Select, roll-Term}
use Rattle.typed_nodes.specs.declared.test.Junction.{Junction}
use Rattle.typed_nodes.specs.declared.test.Junction.TheVariants as by
use Rattle.typed_nodes.specs.declared.expr.TypedArm.{TypedArm}
use Rattle.typed_nodes.specs.declared.expr.TypedExpr.{TypedExpr}
use Rattle.typed_nodes.specs.declared.test.TypedTest.{TypedTest}
use Rattle.typed_nodes.specs.Refusals.{Outcome}
use Rattle.typed_nodes.specs.Nodes as node
use Rattle.typed_nodes.specs.Tests as tests
use Rattle.table_names.specs.Contents as tell
use Rattle.table_names.specs.Contents.{Names, all_of, in_select, is_among, maybe}
use Rattle.std.proofs.lemmas.Slice.Eq.{bytes_eq-Decides}
use Rattle.clause_binder.specs.declared.operand.Selected.{Selected}
use Rattle.clause_binder.specs.Progress.{Binding, Read, and_then, bind_of, each_read, pure}
use Rattle.clause_binder.specs.Operands as operand
use Rattle.clause_binder.specs.Clauses.{ExprRead, FromRead, ItemRead, JoinRead, OrderRead}
use Rattle.clause_binder.specs.Bind as bind
use Rattle.clause_binder.specs.Bind.{TermRead, expr_of, item_of, join_of, test_of, arm_of, factor_of, from_of, order_of, query_of, term_of, expr_step, item_step, join_step, test_step, arm_step, factor_step, from_step, order_step, select_step, term_step, read_of}
use Rattle.query_eval.specs.Ans.{references_of}
use Rattle.query_laws.specs.Laws.{AllOf}
use Rattle.query_laws.specs.Named.{IsDefined, IsNamed, TablesNamed}
use Rattle.query_laws.proofs.Lists.{all_of_each, all_of_map}
use Rattle.query_laws.proofs.KeptNames.{Keeps, KeptFrom, KeptItem, KeptJoin, KeptTest, SelectNamed, aggregate_keeps, chain_keeps, count_keeps, exists_keeps, in_query_keeps, keeps_each, keeps_given, keeps_pure, keeps_then, scalar_keeps, select_named, settle_keeps, signed_keeps}

module _ (names : Names) where
  -- all of these are among the names
  abbrev Covers : Names → Type 0
  Covers some = AllOf (λ name. is_among name names ≡ true) some

  covers_first : (a b : Names) → Covers (a ++ b) → Covers a
  covers_first [] b h = tt
  covers_first (x ∷ a) b h = (h.0, covers_first a b h.1)

  covers_second : (a b : Names) → Covers (a ++ b) → Covers b
  covers_second [] b h = h
  covers_second (x ∷ a) b h = covers_second a b h.1

  -- what holds of each of a list, if all names of it are covered
  each_covered : {A B : Type 0} (f : A → B) (tells : A → Names) (P : B → Type 0) (items : List ((a : A) × (Covers (tells a) → P (f a)))) → Covers (all_of (map tells (map (λ p. p.0) items))) → AllOf P (map f (map (λ p. p.0) items))
  each_covered f tells P [] h = tt
  each_covered f tells P (p ∷ rest) h = (p.1 (covers_first (tells p.0) (all_of (map tells (map (λ p. p.0) rest))) h), each_covered f tells P rest (covers_second (tells p.0) (all_of (map tells (map (λ p. p.0) rest))) h))

  -- ---- nodes that name what several parts do

  between_parts : (a low high : Names) (negative : Bool) → Covers (tell.test_step (Test-F.Between a negative low high)) → Covers a × Covers low × Covers high
  between_parts a low high negative h = (covers_first a low (covers_first (a ++ low) high h), covers_second a low (covers_first (a ++ low) high h), covers_second (a ++ low) high h)

  abbrev NamesLayer : Type 0
  NamesLayer = Select-F Names Names Names Names Names Names Names Names Names Names

  record SelectCovered (y : NamesLayer) : Type 0 where
    pub items : Covers (all_of y.items)
    pub from : Covers (maybe y.from)
    pub filter : Covers (maybe y.filter)
    pub groups : Covers (all_of y.groups)
    pub having : Covers (maybe y.having)
    pub order : Covers (all_of y.order)

  six_parts : (a b c d e f : Names) → Covers (a ++ b ++ c ++ d ++ e ++ f) → Covers a × Covers b × Covers c × Covers d × Covers e × Covers f
  six_parts a b c d e f h =
      let h1 = covers_first (a ++ b ++ c ++ d ++ e) f h in
      let h2 = covers_first (a ++ b ++ c ++ d) e h1 in
      let h3 = covers_first (a ++ b ++ c) d h2 in
      let h4 = covers_first (a ++ b) c h3 in
      (covers_first a b h4, covers_second a b h4, covers_second (a ++ b) c h3, covers_second (a ++ b ++ c) d h2, covers_second (a ++ b ++ c ++ d) e h1, covers_second (a ++ b ++ c ++ d ++ e) f h)

  select_parts : (y : NamesLayer) → Covers (tell.select_step y) → SelectCovered y
  select_parts y h =
      let parts = six_parts (all_of y.items) (maybe y.from) (maybe y.filter) (all_of y.groups) (maybe y.having) (all_of y.order) h in
      record { items = parts.0; from = parts.1; filter = parts.2; groups = parts.3; having = parts.4; order = parts.5 }

  -- ---- nodes over parts

  one_keeps : {A B : Type 0} (a : Binding A) (make : A → B) → Keeps names a → Keeps names (and_then a (λ x. pure (make x)))
  one_keeps a make h = keeps_then names a (λ x. pure (make x)) h (λ x. keeps_pure names (make x))

  two_keep : {A B C : Type 0} (a : Binding A) (b : Binding B) (make : A → B → C) → Keeps names a → Keeps names b → Keeps names (and_then a (λ x. and_then b (λ y. pure (make x y))))
  two_keep a b make h g = keeps_then names a (λ x. and_then b (λ y. pure (make x y))) h (λ x. one_keeps b (make x) g)

  each_keeps : {A : Type 0} (parts : List (Read A)) → AllOf (λ (a : Read A). Keeps names a.bind) parts → Keeps names (each_read parts).bind
  each_keeps {A = A} parts h = keeps_each names [] (map bind_of parts) (all_of_map bind_of (λ (b : Binding A). Keeps names b) parts h)

  exprs_keep : (items : List ExprRead) → AllOf (λ (a : ExprRead). Keeps names a.read.bind) items → Keeps names (each_read (map read_of items)).bind
  exprs_keep items h = each_keeps (map read_of items) (all_of_map read_of (λ (a : Read TypedExpr). Keeps names a.bind) items h)

  case_keeps : (arms : List (Read TypedArm)) (other : Option ExprRead) → AllOf (λ (a : Read TypedArm). Keeps names a.bind) arms → ((a : ExprRead) → other ≡ Some a → Keeps names a.read.bind) → Keeps names (bind.case_read arms other).read.bind
  case_keeps arms None h g = settle_keeps names _ (two_keep (each_read arms).bind (pure node.lone_null) node.case_expr (each_keeps arms h) (keeps_pure names node.lone_null))
  case_keeps arms (Some a) h g = settle_keeps names _ (two_keep (each_read arms).bind a.read.bind node.case_expr (each_keeps arms h) (g a refl))

  joined_keeps : (junction : Junction) (first : Read TypedTest) (rest : List (Read TypedTest)) → Keeps names first.bind → AllOf (λ (a : Read TypedTest). Keeps names a.bind) rest → Keeps names (bind.joined_by junction first rest).bind
  joined_keeps junction first rest h g = two_keep first.bind (each_read rest).bind (tests.all_joined junction) h (each_keeps rest g)

  test_maybe : (of : Option (Read TypedTest)) → ((a : Read TypedTest) → of ≡ Some a → Keeps names a.bind) → KeptTest names of
  test_maybe None h = tt
  test_maybe (Some a) h = h a refl

  module _ (definitions : List Definition) (vars : List Variable) where
    abbrev PExpr : Expr → Type 0
    PExpr x = Covers (tell.in_expr x) → Keeps names (expr_of definitions vars x).read.bind

    abbrev PItem : Item → Type 0
    PItem x = Covers (tell.in_item x) → KeptItem names (item_of definitions vars x)

    abbrev PJoin : Join → Type 0
    PJoin x = Covers (tell.in_join x) → KeptJoin names (join_of definitions vars x)

    abbrev PTest : Test → Type 0
    PTest x = Covers (tell.in_test x) → Keeps names (test_of definitions vars x).bind

    abbrev PArm : Arm → Type 0
    PArm x = Covers (tell.in_arm x) → Keeps names (arm_of definitions vars x).bind

    abbrev PFactor : Factor → Type 0
    PFactor x = Covers (tell.in_factor x) → Keeps names (factor_of definitions vars x).read.bind

    abbrev PFromClause : FromClause → Type 0
    PFromClause x = Covers (tell.in_from x) → KeptFrom names (Some (from_of definitions vars x))

    abbrev POrderItem : OrderItem → Type 0
    POrderItem x = Covers (tell.in_order x) → Keeps names (order_of definitions vars x).expr.read.bind

    abbrev PSelect : Select → Type 0
    PSelect x = Covers (tell.in_select x) → SelectNamed names (query_of definitions vars x)

    abbrev PTerm : Term → Type 0
    PTerm x = Covers (tell.in_term x) → Keeps names (term_of definitions vars x).read.bind

    -- a layer of trees, what is read of it, and what it names
    abbrev ExprBelow : Type 0
    ExprBelow = Expr-F ((x : Expr) × PExpr x) ((x : Item) × PItem x) ((x : Join) × PJoin x) ((x : Test) × PTest x) ((x : Arm) × PArm x) ((x : Factor) × PFactor x) ((x : FromClause) × PFromClause x) ((x : OrderItem) × POrderItem x) ((x : Select) × PSelect x) ((x : Term) × PTerm x)

    abbrev trees_of_Expr : ExprBelow → Expr-F Expr Item Join Test Arm Factor FromClause OrderItem Select Term
    trees_of_Expr = map-Expr _ _ _ _ _ _ _ _ _ _ Expr Item Join Test Arm Factor FromClause OrderItem Select Term (λ p. p.0) (λ p. p.0) (λ p. p.0) (λ p. p.0) (λ p. p.0) (λ p. p.0) (λ p. p.0) (λ p. p.0) (λ p. p.0) (λ p. p.0)

    abbrev reads_of_Expr : Expr-F Expr Item Join Test Arm Factor FromClause OrderItem Select Term → Expr-F ExprRead ItemRead JoinRead (Read TypedTest) (Read TypedArm) TermRead FromRead OrderRead (Outcome Selected) TermRead
    reads_of_Expr = map-Expr _ _ _ _ _ _ _ _ _ _ ExprRead ItemRead JoinRead (Read TypedTest) (Read TypedArm) TermRead FromRead OrderRead (Outcome Selected) TermRead (expr_of definitions vars) (item_of definitions vars) (join_of definitions vars) (test_of definitions vars) (arm_of definitions vars) (factor_of definitions vars) (from_of definitions vars) (order_of definitions vars) (query_of definitions vars) (term_of definitions vars)

    abbrev names_of_Expr : Expr-F Expr Item Join Test Arm Factor FromClause OrderItem Select Term → Expr-F Names Names Names Names Names Names Names Names Names Names
    names_of_Expr = map-Expr _ _ _ _ _ _ _ _ _ _ Names Names Names Names Names Names Names Names Names Names tell.in_expr tell.in_item tell.in_join tell.in_test tell.in_arm tell.in_factor tell.in_from tell.in_order tell.in_select tell.in_term

    abbrev ItemBelow : Type 0
    ItemBelow = Item-F ((x : Expr) × PExpr x) ((x : Item) × PItem x) ((x : Join) × PJoin x) ((x : Test) × PTest x) ((x : Arm) × PArm x) ((x : Factor) × PFactor x) ((x : FromClause) × PFromClause x) ((x : OrderItem) × POrderItem x) ((x : Select) × PSelect x) ((x : Term) × PTerm x)

    abbrev trees_of_Item : ItemBelow → Item-F Expr Item Join Test Arm Factor FromClause OrderItem Select Term
    trees_of_Item = map-Item _ _ _ _ _ _ _ _ _ _ Expr Item Join Test Arm Factor FromClause OrderItem Select Term (λ p. p.0) (λ p. p.0) (λ p. p.0) (λ p. p.0) (λ p. p.0) (λ p. p.0) (λ p. p.0) (λ p. p.0) (λ p. p.0) (λ p. p.0)

    abbrev reads_of_Item : Item-F Expr Item Join Test Arm Factor FromClause OrderItem Select Term → Item-F ExprRead ItemRead JoinRead (Read TypedTest) (Read TypedArm) TermRead FromRead OrderRead (Outcome Selected) TermRead
    reads_of_Item = map-Item _ _ _ _ _ _ _ _ _ _ ExprRead ItemRead JoinRead (Read TypedTest) (Read TypedArm) TermRead FromRead OrderRead (Outcome Selected) TermRead (expr_of definitions vars) (item_of definitions vars) (join_of definitions vars) (test_of definitions vars) (arm_of definitions vars) (factor_of definitions vars) (from_of definitions vars) (order_of definitions vars) (query_of definitions vars) (term_of definitions vars)

    abbrev names_of_Item : Item-F Expr Item Join Test Arm Factor FromClause OrderItem Select Term → Item-F Names Names Names Names Names Names Names Names Names Names
    names_of_Item = map-Item _ _ _ _ _ _ _ _ _ _ Names Names Names Names Names Names Names Names Names Names tell.in_expr tell.in_item tell.in_join tell.in_test tell.in_arm tell.in_factor tell.in_from tell.in_order tell.in_select tell.in_term

    abbrev JoinBelow : Type 0
    JoinBelow = Join-F ((x : Expr) × PExpr x) ((x : Item) × PItem x) ((x : Join) × PJoin x) ((x : Test) × PTest x) ((x : Arm) × PArm x) ((x : Factor) × PFactor x) ((x : FromClause) × PFromClause x) ((x : OrderItem) × POrderItem x) ((x : Select) × PSelect x) ((x : Term) × PTerm x)

    abbrev trees_of_Join : JoinBelow → Join-F Expr Item Join Test Arm Factor FromClause OrderItem Select Term
    trees_of_Join = map-Join _ _ _ _ _ _ _ _ _ _ Expr Item Join Test Arm Factor FromClause OrderItem Select Term (λ p. p.0) (λ p. p.0) (λ p. p.0) (λ p. p.0) (λ p. p.0) (λ p. p.0) (λ p. p.0) (λ p. p.0) (λ p. p.0) (λ p. p.0)

    abbrev reads_of_Join : Join-F Expr Item Join Test Arm Factor FromClause OrderItem Select Term → Join-F ExprRead ItemRead JoinRead (Read TypedTest) (Read TypedArm) TermRead FromRead OrderRead (Outcome Selected) TermRead
    reads_of_Join = map-Join _ _ _ _ _ _ _ _ _ _ ExprRead ItemRead JoinRead (Read TypedTest) (Read TypedArm) TermRead FromRead OrderRead (Outcome Selected) TermRead (expr_of definitions vars) (item_of definitions vars) (join_of definitions vars) (test_of definitions vars) (arm_of definitions vars) (factor_of definitions vars) (from_of definitions vars) (order_of definitions vars) (query_of definitions vars) (term_of definitions vars)

    abbrev names_of_Join : Join-F Expr Item Join Test Arm Factor FromClause OrderItem Select Term → Join-F Names Names Names Names Names Names Names Names Names Names
    names_of_Join = map-Join _ _ _ _ _ _ _ _ _ _ Names Names Names Names Names Names Names Names Names Names tell.in_expr tell.in_item tell.in_join tell.in_test tell.in_arm tell.in_factor tell.in_from tell.in_order tell.in_select tell.in_term

    abbrev TestBelow : Type 0
    TestBelow = Test-F ((x : Expr) × PExpr x) ((x : Item) × PItem x) ((x : Join) × PJoin x) ((x : Test) × PTest x) ((x : Arm) × PArm x) ((x : Factor) × PFactor x) ((x : FromClause) × PFromClause x) ((x : OrderItem) × POrderItem x) ((x : Select) × PSelect x) ((x : Term) × PTerm x)

    abbrev trees_of_Test : TestBelow → Test-F Expr Item Join Test Arm Factor FromClause OrderItem Select Term
    trees_of_Test = map-Test _ _ _ _ _ _ _ _ _ _ Expr Item Join Test Arm Factor FromClause OrderItem Select Term (λ p. p.0) (λ p. p.0) (λ p. p.0) (λ p. p.0) (λ p. p.0) (λ p. p.0) (λ p. p.0) (λ p. p.0) (λ p. p.0) (λ p. p.0)

    abbrev reads_of_Test : Test-F Expr Item Join Test Arm Factor FromClause OrderItem Select Term → Test-F ExprRead ItemRead JoinRead (Read TypedTest) (Read TypedArm) TermRead FromRead OrderRead (Outcome Selected) TermRead
    reads_of_Test = map-Test _ _ _ _ _ _ _ _ _ _ ExprRead ItemRead JoinRead (Read TypedTest) (Read TypedArm) TermRead FromRead OrderRead (Outcome Selected) TermRead (expr_of definitions vars) (item_of definitions vars) (join_of definitions vars) (test_of definitions vars) (arm_of definitions vars) (factor_of definitions vars) (from_of definitions vars) (order_of definitions vars) (query_of definitions vars) (term_of definitions vars)

    abbrev names_of_Test : Test-F Expr Item Join Test Arm Factor FromClause OrderItem Select Term → Test-F Names Names Names Names Names Names Names Names Names Names
    names_of_Test = map-Test _ _ _ _ _ _ _ _ _ _ Names Names Names Names Names Names Names Names Names Names tell.in_expr tell.in_item tell.in_join tell.in_test tell.in_arm tell.in_factor tell.in_from tell.in_order tell.in_select tell.in_term

    abbrev ArmBelow : Type 0
    ArmBelow = Arm-F ((x : Expr) × PExpr x) ((x : Item) × PItem x) ((x : Join) × PJoin x) ((x : Test) × PTest x) ((x : Arm) × PArm x) ((x : Factor) × PFactor x) ((x : FromClause) × PFromClause x) ((x : OrderItem) × POrderItem x) ((x : Select) × PSelect x) ((x : Term) × PTerm x)

    abbrev trees_of_Arm : ArmBelow → Arm-F Expr Item Join Test Arm Factor FromClause OrderItem Select Term
    trees_of_Arm = map-Arm _ _ _ _ _ _ _ _ _ _ Expr Item Join Test Arm Factor FromClause OrderItem Select Term (λ p. p.0) (λ p. p.0) (λ p. p.0) (λ p. p.0) (λ p. p.0) (λ p. p.0) (λ p. p.0) (λ p. p.0) (λ p. p.0) (λ p. p.0)

    abbrev reads_of_Arm : Arm-F Expr Item Join Test Arm Factor FromClause OrderItem Select Term → Arm-F ExprRead ItemRead JoinRead (Read TypedTest) (Read TypedArm) TermRead FromRead OrderRead (Outcome Selected) TermRead
    reads_of_Arm = map-Arm _ _ _ _ _ _ _ _ _ _ ExprRead ItemRead JoinRead (Read TypedTest) (Read TypedArm) TermRead FromRead OrderRead (Outcome Selected) TermRead (expr_of definitions vars) (item_of definitions vars) (join_of definitions vars) (test_of definitions vars) (arm_of definitions vars) (factor_of definitions vars) (from_of definitions vars) (order_of definitions vars) (query_of definitions vars) (term_of definitions vars)

    abbrev names_of_Arm : Arm-F Expr Item Join Test Arm Factor FromClause OrderItem Select Term → Arm-F Names Names Names Names Names Names Names Names Names Names
    names_of_Arm = map-Arm _ _ _ _ _ _ _ _ _ _ Names Names Names Names Names Names Names Names Names Names tell.in_expr tell.in_item tell.in_join tell.in_test tell.in_arm tell.in_factor tell.in_from tell.in_order tell.in_select tell.in_term

    abbrev FactorBelow : Type 0
    FactorBelow = Factor-F ((x : Expr) × PExpr x) ((x : Item) × PItem x) ((x : Join) × PJoin x) ((x : Test) × PTest x) ((x : Arm) × PArm x) ((x : Factor) × PFactor x) ((x : FromClause) × PFromClause x) ((x : OrderItem) × POrderItem x) ((x : Select) × PSelect x) ((x : Term) × PTerm x)

    abbrev trees_of_Factor : FactorBelow → Factor-F Expr Item Join Test Arm Factor FromClause OrderItem Select Term
    trees_of_Factor = map-Factor _ _ _ _ _ _ _ _ _ _ Expr Item Join Test Arm Factor FromClause OrderItem Select Term (λ p. p.0) (λ p. p.0) (λ p. p.0) (λ p. p.0) (λ p. p.0) (λ p. p.0) (λ p. p.0) (λ p. p.0) (λ p. p.0) (λ p. p.0)

    abbrev reads_of_Factor : Factor-F Expr Item Join Test Arm Factor FromClause OrderItem Select Term → Factor-F ExprRead ItemRead JoinRead (Read TypedTest) (Read TypedArm) TermRead FromRead OrderRead (Outcome Selected) TermRead
    reads_of_Factor = map-Factor _ _ _ _ _ _ _ _ _ _ ExprRead ItemRead JoinRead (Read TypedTest) (Read TypedArm) TermRead FromRead OrderRead (Outcome Selected) TermRead (expr_of definitions vars) (item_of definitions vars) (join_of definitions vars) (test_of definitions vars) (arm_of definitions vars) (factor_of definitions vars) (from_of definitions vars) (order_of definitions vars) (query_of definitions vars) (term_of definitions vars)

    abbrev names_of_Factor : Factor-F Expr Item Join Test Arm Factor FromClause OrderItem Select Term → Factor-F Names Names Names Names Names Names Names Names Names Names
    names_of_Factor = map-Factor _ _ _ _ _ _ _ _ _ _ Names Names Names Names Names Names Names Names Names Names tell.in_expr tell.in_item tell.in_join tell.in_test tell.in_arm tell.in_factor tell.in_from tell.in_order tell.in_select tell.in_term

    abbrev FromClauseBelow : Type 0
    FromClauseBelow = FromClause-F ((x : Expr) × PExpr x) ((x : Item) × PItem x) ((x : Join) × PJoin x) ((x : Test) × PTest x) ((x : Arm) × PArm x) ((x : Factor) × PFactor x) ((x : FromClause) × PFromClause x) ((x : OrderItem) × POrderItem x) ((x : Select) × PSelect x) ((x : Term) × PTerm x)

    abbrev trees_of_FromClause : FromClauseBelow → FromClause-F Expr Item Join Test Arm Factor FromClause OrderItem Select Term
    trees_of_FromClause = map-FromClause _ _ _ _ _ _ _ _ _ _ Expr Item Join Test Arm Factor FromClause OrderItem Select Term (λ p. p.0) (λ p. p.0) (λ p. p.0) (λ p. p.0) (λ p. p.0) (λ p. p.0) (λ p. p.0) (λ p. p.0) (λ p. p.0) (λ p. p.0)

    abbrev reads_of_FromClause : FromClause-F Expr Item Join Test Arm Factor FromClause OrderItem Select Term → FromClause-F ExprRead ItemRead JoinRead (Read TypedTest) (Read TypedArm) TermRead FromRead OrderRead (Outcome Selected) TermRead
    reads_of_FromClause = map-FromClause _ _ _ _ _ _ _ _ _ _ ExprRead ItemRead JoinRead (Read TypedTest) (Read TypedArm) TermRead FromRead OrderRead (Outcome Selected) TermRead (expr_of definitions vars) (item_of definitions vars) (join_of definitions vars) (test_of definitions vars) (arm_of definitions vars) (factor_of definitions vars) (from_of definitions vars) (order_of definitions vars) (query_of definitions vars) (term_of definitions vars)

    abbrev names_of_FromClause : FromClause-F Expr Item Join Test Arm Factor FromClause OrderItem Select Term → FromClause-F Names Names Names Names Names Names Names Names Names Names
    names_of_FromClause = map-FromClause _ _ _ _ _ _ _ _ _ _ Names Names Names Names Names Names Names Names Names Names tell.in_expr tell.in_item tell.in_join tell.in_test tell.in_arm tell.in_factor tell.in_from tell.in_order tell.in_select tell.in_term

    abbrev OrderItemBelow : Type 0
    OrderItemBelow = OrderItem-F ((x : Expr) × PExpr x) ((x : Item) × PItem x) ((x : Join) × PJoin x) ((x : Test) × PTest x) ((x : Arm) × PArm x) ((x : Factor) × PFactor x) ((x : FromClause) × PFromClause x) ((x : OrderItem) × POrderItem x) ((x : Select) × PSelect x) ((x : Term) × PTerm x)

    abbrev trees_of_OrderItem : OrderItemBelow → OrderItem-F Expr Item Join Test Arm Factor FromClause OrderItem Select Term
    trees_of_OrderItem = map-OrderItem _ _ _ _ _ _ _ _ _ _ Expr Item Join Test Arm Factor FromClause OrderItem Select Term (λ p. p.0) (λ p. p.0) (λ p. p.0) (λ p. p.0) (λ p. p.0) (λ p. p.0) (λ p. p.0) (λ p. p.0) (λ p. p.0) (λ p. p.0)

    abbrev reads_of_OrderItem : OrderItem-F Expr Item Join Test Arm Factor FromClause OrderItem Select Term → OrderItem-F ExprRead ItemRead JoinRead (Read TypedTest) (Read TypedArm) TermRead FromRead OrderRead (Outcome Selected) TermRead
    reads_of_OrderItem = map-OrderItem _ _ _ _ _ _ _ _ _ _ ExprRead ItemRead JoinRead (Read TypedTest) (Read TypedArm) TermRead FromRead OrderRead (Outcome Selected) TermRead (expr_of definitions vars) (item_of definitions vars) (join_of definitions vars) (test_of definitions vars) (arm_of definitions vars) (factor_of definitions vars) (from_of definitions vars) (order_of definitions vars) (query_of definitions vars) (term_of definitions vars)

    abbrev names_of_OrderItem : OrderItem-F Expr Item Join Test Arm Factor FromClause OrderItem Select Term → OrderItem-F Names Names Names Names Names Names Names Names Names Names
    names_of_OrderItem = map-OrderItem _ _ _ _ _ _ _ _ _ _ Names Names Names Names Names Names Names Names Names Names tell.in_expr tell.in_item tell.in_join tell.in_test tell.in_arm tell.in_factor tell.in_from tell.in_order tell.in_select tell.in_term

    abbrev SelectBelow : Type 0
    SelectBelow = Select-F ((x : Expr) × PExpr x) ((x : Item) × PItem x) ((x : Join) × PJoin x) ((x : Test) × PTest x) ((x : Arm) × PArm x) ((x : Factor) × PFactor x) ((x : FromClause) × PFromClause x) ((x : OrderItem) × POrderItem x) ((x : Select) × PSelect x) ((x : Term) × PTerm x)

    abbrev trees_of_Select : SelectBelow → Select-F Expr Item Join Test Arm Factor FromClause OrderItem Select Term
    trees_of_Select = map-Select _ _ _ _ _ _ _ _ _ _ Expr Item Join Test Arm Factor FromClause OrderItem Select Term (λ p. p.0) (λ p. p.0) (λ p. p.0) (λ p. p.0) (λ p. p.0) (λ p. p.0) (λ p. p.0) (λ p. p.0) (λ p. p.0) (λ p. p.0)

    abbrev reads_of_Select : Select-F Expr Item Join Test Arm Factor FromClause OrderItem Select Term → Select-F ExprRead ItemRead JoinRead (Read TypedTest) (Read TypedArm) TermRead FromRead OrderRead (Outcome Selected) TermRead
    reads_of_Select = map-Select _ _ _ _ _ _ _ _ _ _ ExprRead ItemRead JoinRead (Read TypedTest) (Read TypedArm) TermRead FromRead OrderRead (Outcome Selected) TermRead (expr_of definitions vars) (item_of definitions vars) (join_of definitions vars) (test_of definitions vars) (arm_of definitions vars) (factor_of definitions vars) (from_of definitions vars) (order_of definitions vars) (query_of definitions vars) (term_of definitions vars)

    abbrev names_of_Select : Select-F Expr Item Join Test Arm Factor FromClause OrderItem Select Term → Select-F Names Names Names Names Names Names Names Names Names Names
    names_of_Select = map-Select _ _ _ _ _ _ _ _ _ _ Names Names Names Names Names Names Names Names Names Names tell.in_expr tell.in_item tell.in_join tell.in_test tell.in_arm tell.in_factor tell.in_from tell.in_order tell.in_select tell.in_term

    abbrev TermBelow : Type 0
    TermBelow = Term-F ((x : Expr) × PExpr x) ((x : Item) × PItem x) ((x : Join) × PJoin x) ((x : Test) × PTest x) ((x : Arm) × PArm x) ((x : Factor) × PFactor x) ((x : FromClause) × PFromClause x) ((x : OrderItem) × POrderItem x) ((x : Select) × PSelect x) ((x : Term) × PTerm x)

    abbrev trees_of_Term : TermBelow → Term-F Expr Item Join Test Arm Factor FromClause OrderItem Select Term
    trees_of_Term = map-Term _ _ _ _ _ _ _ _ _ _ Expr Item Join Test Arm Factor FromClause OrderItem Select Term (λ p. p.0) (λ p. p.0) (λ p. p.0) (λ p. p.0) (λ p. p.0) (λ p. p.0) (λ p. p.0) (λ p. p.0) (λ p. p.0) (λ p. p.0)

    abbrev reads_of_Term : Term-F Expr Item Join Test Arm Factor FromClause OrderItem Select Term → Term-F ExprRead ItemRead JoinRead (Read TypedTest) (Read TypedArm) TermRead FromRead OrderRead (Outcome Selected) TermRead
    reads_of_Term = map-Term _ _ _ _ _ _ _ _ _ _ ExprRead ItemRead JoinRead (Read TypedTest) (Read TypedArm) TermRead FromRead OrderRead (Outcome Selected) TermRead (expr_of definitions vars) (item_of definitions vars) (join_of definitions vars) (test_of definitions vars) (arm_of definitions vars) (factor_of definitions vars) (from_of definitions vars) (order_of definitions vars) (query_of definitions vars) (term_of definitions vars)

    abbrev names_of_Term : Term-F Expr Item Join Test Arm Factor FromClause OrderItem Select Term → Term-F Names Names Names Names Names Names Names Names Names Names
    names_of_Term = map-Term _ _ _ _ _ _ _ _ _ _ Names Names Names Names Names Names Names Names Names Names tell.in_expr tell.in_item tell.in_join tell.in_test tell.in_arm tell.in_factor tell.in_from tell.in_order tell.in_select tell.in_term

    -- ---- expressions

    exprs_below : (items : List ((x : Expr) × PExpr x)) → Covers (all_of (map tell.in_expr (map (λ p. p.0) items))) → AllOf (λ (a : ExprRead). Keeps names a.read.bind) (map (expr_of definitions vars) (map (λ p. p.0) items))
    exprs_below items h = each_covered (expr_of definitions vars) tell.in_expr (λ (a : ExprRead). Keeps names a.read.bind) items h

    tests_below : (items : List ((x : Test) × PTest x)) → Covers (all_of (map tell.in_test (map (λ p. p.0) items))) → AllOf (λ (a : Read TypedTest). Keeps names a.bind) (map (test_of definitions vars) (map (λ p. p.0) items))
    tests_below items h = each_covered (test_of definitions vars) tell.in_test (λ (a : Read TypedTest). Keeps names a.bind) items h

    arms_below : (items : List ((x : Arm) × PArm x)) → Covers (all_of (map tell.in_arm (map (λ p. p.0) items))) → AllOf (λ (a : Read TypedArm). Keeps names a.bind) (map (arm_of definitions vars) (map (λ p. p.0) items))
    arms_below items h = each_covered (arm_of definitions vars) tell.in_arm (λ (a : Read TypedArm). Keeps names a.bind) items h

    expr_kept : (y : ExprBelow) → Covers (tell.expr_step (names_of_Expr (trees_of_Expr y))) → Keeps names (expr_step definitions vars (reads_of_Expr (trees_of_Expr y))).read.bind
    expr_kept (Expr-F.Number n) h = settle_keeps names (pure (bind.literal n)) (keeps_pure names (bind.literal n))
    expr_kept (Expr-F.Text units) h = settle_keeps names (pure (node.text_expr units)) (keeps_pure names (node.text_expr units))
    expr_kept Expr-F.Null h = settle_keeps names (pure node.lone_null) (keeps_pure names node.lone_null)
    expr_kept (Expr-F.Variable name) h = settle_keeps names (operand.variable vars name) (keeps_given names (λ at. operand.variable_in vars at name))
    expr_kept (Expr-F.System word) h = settle_keeps names (operand.system_expr word) (λ at done n. n)
    expr_kept (Expr-F.Column table called) h = settle_keeps names (operand.column table called) (keeps_given names (λ at. operand.column_in table called at))
    expr_kept (Expr-F.Expr::Parens a) h = a.1 h
    expr_kept (Expr-F.Query select) h = settle_keeps names (operand.scalar (query_of definitions vars select.0)) (scalar_keeps names (query_of definitions vars select.0) (select.1 h))
    expr_kept (Expr-F.Case arms None) h = case_keeps (map (arm_of definitions vars) (map (λ p. p.0) arms)) None (arms_below arms (covers_first (all_of (map tell.in_arm (map (λ p. p.0) arms))) [] h)) (λ a e. absurd (cc))
    expr_kept (Expr-F.Case arms (Some other)) h = case_keeps (map (arm_of definitions vars) (map (λ p. p.0) arms)) (Some (expr_of definitions vars other.0)) (arms_below arms (covers_first (all_of (map tell.in_arm (map (λ p. p.0) arms))) (tell.in_expr other.0) h))
        (λ a e. let same : expr_of definitions vars other.0 ≡ a = cc in subst (λ (z : ExprRead). Keeps names z.read.bind) same (other.1 (covers_second (all_of (map tell.in_arm (map (λ p. p.0) arms))) (tell.in_expr other.0) h)))
    expr_kept (Expr-F.Cast a kind) h = settle_keeps names _ (one_keeps (expr_of definitions vars a.0).read.bind (node.cast_expr kind) (a.1 h))
    expr_kept (Expr-F.Expr::IsNull a b) h = settle_keeps names _ (two_keep (expr_of definitions vars a.0).read.bind (expr_of definitions vars b.0).read.bind node.is_null_expr (a.1 (covers_first (tell.in_expr a.0) (tell.in_expr b.0) h)) (b.1 (covers_second (tell.in_expr a.0) (tell.in_expr b.0) h)))
    expr_kept (Expr-F.NullIf a b) h = settle_keeps names _ (two_keep (expr_of definitions vars a.0).read.bind (expr_of definitions vars b.0).read.bind node.null_if_expr (a.1 (covers_first (tell.in_expr a.0) (tell.in_expr b.0) h)) (b.1 (covers_second (tell.in_expr a.0) (tell.in_expr b.0) h)))
    expr_kept (Expr-F.Coalesce items) h = settle_keeps names _ (one_keeps (each_read (map read_of (map (expr_of definitions vars) (map (λ p. p.0) items)))).bind node.coalesce_expr (exprs_keep (map (expr_of definitions vars) (map (λ p. p.0) items)) (exprs_below items h)))
    expr_kept (Expr-F.Length a) h = settle_keeps names _ (one_keeps (expr_of definitions vars a.0).read.bind node.length_expr (a.1 h))
    expr_kept Expr-F.CountRows h = settle_keeps names operand.count_rows (count_keeps names)
    expr_kept (Expr-F.Aggregate agg distinct a) h = settle_keeps names (operand.aggregate agg distinct (expr_of definitions vars a.0).read.bind) (aggregate_keeps names agg distinct (expr_of definitions vars a.0).read.bind (a.1 h))
    expr_kept (Expr-F.Signed signs a) h = settle_keeps names (bind.signed_from signs (expr_of definitions vars a.0).shape (expr_of definitions vars a.0).read.bind) (signed_keeps names signs (expr_of definitions vars a.0).shape (expr_of definitions vars a.0).read.bind (a.1 h))
    expr_kept (Expr-F.Product first factors) h = settle_keeps names _ (keeps_then names (expr_of definitions vars first.0).read.bind (λ x. bind.chain_onto x (map (factor_of definitions vars) (map (λ p. p.0) factors))) (first.1 (covers_first (tell.in_expr first.0) (all_of (map tell.in_factor (map (λ p. p.0) factors))) h))
        (λ x. chain_keeps names x (map (factor_of definitions vars) (map (λ p. p.0) factors)) (each_covered (factor_of definitions vars) tell.in_factor (λ (a : TermRead). Keeps names a.read.bind) factors (covers_second (tell.in_expr first.0) (all_of (map tell.in_factor (map (λ p. p.0) factors))) h))))
    expr_kept (Expr-F.Sum first terms) h = settle_keeps names _ (keeps_then names (expr_of definitions vars first.0).read.bind (λ x. bind.chain_onto x (map (term_of definitions vars) (map (λ p. p.0) terms))) (first.1 (covers_first (tell.in_expr first.0) (all_of (map tell.in_term (map (λ p. p.0) terms))) h))
        (λ x. chain_keeps names x (map (term_of definitions vars) (map (λ p. p.0) terms)) (each_covered (term_of definitions vars) tell.in_term (λ (a : TermRead). Keeps names a.read.bind) terms (covers_second (tell.in_expr first.0) (all_of (map tell.in_term (map (λ p. p.0) terms))) h))))

    -- ---- tests

    test_kept : (y : TestBelow) → Covers (tell.test_step (names_of_Test (trees_of_Test y))) → Keeps names (test_step definitions vars (reads_of_Test (trees_of_Test y))).bind
    test_kept (Test-F.Test::Parens a) h = a.1 h
    test_kept (Test-F.Exists select) h = exists_keeps names (query_of definitions vars select.0) (select.1 h)
    test_kept (Test-F.Compare a sign b) h = two_keep (expr_of definitions vars a.0).read.bind (expr_of definitions vars b.0).read.bind (tests.compare_test (bind.compare_op sign)) (a.1 (covers_first (tell.in_expr a.0) (tell.in_expr b.0) h)) (b.1 (covers_second (tell.in_expr a.0) (tell.in_expr b.0) h))
    test_kept (Test-F.Test::IsNull a negative) h = one_keeps (expr_of definitions vars a.0).read.bind (λ x. tests.negated_where negative (tests.is_null_test x)) (a.1 h)
    test_kept (Test-F.Between a negative low high) h =
        let parts = between_parts (tell.in_expr a.0) (tell.in_expr low.0) (tell.in_expr high.0) negative h in
        keeps_then names (expr_of definitions vars a.0).read.bind (λ x. and_then (expr_of definitions vars low.0).read.bind (λ y. and_then (expr_of definitions vars high.0).read.bind (λ z. bind.tested negative (tests.between_test x y z)))) (a.1 parts.0)
        (λ x. two_keep (expr_of definitions vars low.0).read.bind (expr_of definitions vars high.0).read.bind (λ y z. tests.negated_where negative (tests.between_test x y z)) (low.1 parts.1) (high.1 parts.2))
    test_kept (Test-F.InQuery a negative select) h = one_keeps (and_then (expr_of definitions vars a.0).read.bind (operand.in_query (query_of definitions vars select.0))) (tests.negated_where negative)
        (keeps_then names (expr_of definitions vars a.0).read.bind (operand.in_query (query_of definitions vars select.0)) (a.1 (covers_first (tell.in_expr a.0) (tell.in_select select.0) h)) (λ x. in_query_keeps names (query_of definitions vars select.0) x (select.1 (covers_second (tell.in_expr a.0) (tell.in_select select.0) h))))
    test_kept (Test-F.InList a negative items) h = two_keep (expr_of definitions vars a.0).read.bind (each_read (map read_of (map (expr_of definitions vars) (map (λ p. p.0) items)))).bind (λ x xs. tests.negated_where negative (tests.in_list_test x xs))
        (a.1 (covers_first (tell.in_expr a.0) (all_of (map tell.in_expr (map (λ p. p.0) items))) h)) (exprs_keep (map (expr_of definitions vars) (map (λ p. p.0) items)) (exprs_below items (covers_second (tell.in_expr a.0) (all_of (map tell.in_expr (map (λ p. p.0) items))) h)))
    test_kept (Test-F.Not count a) h = one_keeps (test_of definitions vars a.0).bind (tests.negated_where (bind.is_odd count)) (a.1 h)
    test_kept (Test-F.And first rest) h = joined_keeps by.And (test_of definitions vars first.0) (map (test_of definitions vars) (map (λ p. p.0) rest)) (first.1 (covers_first (tell.in_test first.0) (all_of (map tell.in_test (map (λ p. p.0) rest))) h)) (tests_below rest (covers_second (tell.in_test first.0) (all_of (map tell.in_test (map (λ p. p.0) rest))) h))
    test_kept (Test-F.Or first rest) h = joined_keeps by.Or (test_of definitions vars first.0) (map (test_of definitions vars) (map (λ p. p.0) rest)) (first.1 (covers_first (tell.in_test first.0) (all_of (map tell.in_test (map (λ p. p.0) rest))) h)) (tests_below rest (covers_second (tell.in_test first.0) (all_of (map tell.in_test (map (λ p. p.0) rest))) h))

    -- ---- selects and what stands in them

    item_kept : (y : ItemBelow) → Covers (tell.item_step (names_of_Item (trees_of_Item y))) → KeptItem names (item_step definitions vars (reads_of_Item (trees_of_Item y)))
    item_kept Item-F.All h = tt
    item_kept (Item-F.AllOf name) h = tt
    item_kept (Item-F.Assign name a) h = a.1 h
    item_kept (Item-F.Value a alias) h = a.1 h

    join_kept : (y : JoinBelow) → Covers (tell.join_step (names_of_Join (trees_of_Join y))) → KeptJoin names (join_step definitions vars (reads_of_Join (trees_of_Join y)))
    join_kept (Join-F.Comma of) h = (h.0, tt)
    join_kept (Join-F.Inner of on) h = (h.0, on.1 h.1)
    join_kept (Join-F.Left of on) h = (h.0, on.1 h.1)
    join_kept (Join-F.Cross of) h = (h.0, tt)

    arm_kept : (y : ArmBelow) → Covers (tell.arm_step (names_of_Arm (trees_of_Arm y))) → Keeps names (arm_step definitions vars (reads_of_Arm (trees_of_Arm y))).bind
    arm_kept y h = two_keep (test_of definitions vars y.test.0).bind (expr_of definitions vars y.gives.0).read.bind (λ test gives. record { test = test; gives = gives }) (y.test.1 (covers_first (tell.in_test y.test.0) (tell.in_expr y.gives.0) h)) (y.gives.1 (covers_second (tell.in_test y.test.0) (tell.in_expr y.gives.0) h))

    from_kept : (y : FromClauseBelow) → Covers (tell.from_step (names_of_FromClause (trees_of_FromClause y))) → KeptFrom names (Some (from_step definitions vars (reads_of_FromClause (trees_of_FromClause y))))
    from_kept y h = (h.0, each_covered (join_of definitions vars) tell.in_join (KeptJoin names) y.joins h.1)

    orders_below : (order : List ((o : OrderItem) × POrderItem o)) → Covers (all_of (map tell.in_order (map (λ p. p.0) order))) → AllOf (λ (o : OrderRead). Keeps names o.expr.read.bind) (map (order_of definitions vars) (map (λ p. p.0) order))
    orders_below order h = each_covered (order_of definitions vars) tell.in_order (λ (o : OrderRead). Keeps names o.expr.read.bind) order h

    select_kept : (distinct : Bool) (top : Option ℤ) (items : List ((x : Item) × PItem x)) (from : Option ((x : FromClause) × PFromClause x)) (filter : Option ((x : Test) × PTest x)) (groups : List ((x : Expr) × PExpr x))
        (having : Option ((x : Test) × PTest x)) (order : List ((x : OrderItem) × POrderItem x)) → Covers (tell.select_step (names_of_Select (trees_of_Select (record { distinct = distinct; top = top; items = items; from = from; filter = filter; groups = groups; having = having; order = order }))))
        → SelectNamed names (select_step definitions vars (reads_of_Select (trees_of_Select (record { distinct = distinct; top = top; items = items; from = from; filter = filter; groups = groups; having = having; order = order }))))
    select_kept distinct top items None None groups None order h =
        let parts = select_parts (names_of_Select (trees_of_Select (record { distinct = distinct; top = top; items = items; from = None; filter = None; groups = groups; having = None; order = order }))) h in
        select_named names definitions vars (record { distinct = distinct; top = top; items = map (item_of definitions vars) (map (λ p. p.0) items); from = None; filter = None; groups = map (expr_of definitions vars) (map (λ p. p.0) groups); having = None; order = map (order_of definitions vars) (map (λ p. p.0) order) }) (record { items = each_covered (item_of definitions vars) tell.in_item (KeptItem names) items parts.items; from = tt; filter = tt; groups = exprs_below groups parts.groups; having = tt; order = orders_below order parts.order })
    select_kept distinct top items None None groups (Some having) order h =
        let parts = select_parts (names_of_Select (trees_of_Select (record { distinct = distinct; top = top; items = items; from = None; filter = None; groups = groups; having = Some having; order = order }))) h in
        select_named names definitions vars (record { distinct = distinct; top = top; items = map (item_of definitions vars) (map (λ p. p.0) items); from = None; filter = None; groups = map (expr_of definitions vars) (map (λ p. p.0) groups); having = Some (test_of definitions vars having.0); order = map (order_of definitions vars) (map (λ p. p.0) order) }) (record { items = each_covered (item_of definitions vars) tell.in_item (KeptItem names) items parts.items; from = tt; filter = tt; groups = exprs_below groups parts.groups; having = having.1 parts.having; order = orders_below order parts.order })
    select_kept distinct top items None (Some filter) groups None order h =
        let parts = select_parts (names_of_Select (trees_of_Select (record { distinct = distinct; top = top; items = items; from = None; filter = Some filter; groups = groups; having = None; order = order }))) h in
        select_named names definitions vars (record { distinct = distinct; top = top; items = map (item_of definitions vars) (map (λ p. p.0) items); from = None; filter = Some (test_of definitions vars filter.0); groups = map (expr_of definitions vars) (map (λ p. p.0) groups); having = None; order = map (order_of definitions vars) (map (λ p. p.0) order) }) (record { items = each_covered (item_of definitions vars) tell.in_item (KeptItem names) items parts.items; from = tt; filter = filter.1 parts.filter; groups = exprs_below groups parts.groups; having = tt; order = orders_below order parts.order })
    select_kept distinct top items None (Some filter) groups (Some having) order h =
        let parts = select_parts (names_of_Select (trees_of_Select (record { distinct = distinct; top = top; items = items; from = None; filter = Some filter; groups = groups; having = Some having; order = order }))) h in
        select_named names definitions vars (record { distinct = distinct; top = top; items = map (item_of definitions vars) (map (λ p. p.0) items); from = None; filter = Some (test_of definitions vars filter.0); groups = map (expr_of definitions vars) (map (λ p. p.0) groups); having = Some (test_of definitions vars having.0); order = map (order_of definitions vars) (map (λ p. p.0) order) }) (record { items = each_covered (item_of definitions vars) tell.in_item (KeptItem names) items parts.items; from = tt; filter = filter.1 parts.filter; groups = exprs_below groups parts.groups; having = having.1 parts.having; order = orders_below order parts.order })
    select_kept distinct top items (Some from) None groups None order h =
        let parts = select_parts (names_of_Select (trees_of_Select (record { distinct = distinct; top = top; items = items; from = Some from; filter = None; groups = groups; having = None; order = order }))) h in
        select_named names definitions vars (record { distinct = distinct; top = top; items = map (item_of definitions vars) (map (λ p. p.0) items); from = Some (from_of definitions vars from.0); filter = None; groups = map (expr_of definitions vars) (map (λ p. p.0) groups); having = None; order = map (order_of definitions vars) (map (λ p. p.0) order) }) (record { items = each_covered (item_of definitions vars) tell.in_item (KeptItem names) items parts.items; from = from.1 parts.from; filter = tt; groups = exprs_below groups parts.groups; having = tt; order = orders_below order parts.order })
    select_kept distinct top items (Some from) None groups (Some having) order h =
        let parts = select_parts (names_of_Select (trees_of_Select (record { distinct = distinct; top = top; items = items; from = Some from; filter = None; groups = groups; having = Some having; order = order }))) h in
        select_named names definitions vars (record { distinct = distinct; top = top; items = map (item_of definitions vars) (map (λ p. p.0) items); from = Some (from_of definitions vars from.0); filter = None; groups = map (expr_of definitions vars) (map (λ p. p.0) groups); having = Some (test_of definitions vars having.0); order = map (order_of definitions vars) (map (λ p. p.0) order) }) (record { items = each_covered (item_of definitions vars) tell.in_item (KeptItem names) items parts.items; from = from.1 parts.from; filter = tt; groups = exprs_below groups parts.groups; having = having.1 parts.having; order = orders_below order parts.order })
    select_kept distinct top items (Some from) (Some filter) groups None order h =
        let parts = select_parts (names_of_Select (trees_of_Select (record { distinct = distinct; top = top; items = items; from = Some from; filter = Some filter; groups = groups; having = None; order = order }))) h in
        select_named names definitions vars (record { distinct = distinct; top = top; items = map (item_of definitions vars) (map (λ p. p.0) items); from = Some (from_of definitions vars from.0); filter = Some (test_of definitions vars filter.0); groups = map (expr_of definitions vars) (map (λ p. p.0) groups); having = None; order = map (order_of definitions vars) (map (λ p. p.0) order) }) (record { items = each_covered (item_of definitions vars) tell.in_item (KeptItem names) items parts.items; from = from.1 parts.from; filter = filter.1 parts.filter; groups = exprs_below groups parts.groups; having = tt; order = orders_below order parts.order })
    select_kept distinct top items (Some from) (Some filter) groups (Some having) order h =
        let parts = select_parts (names_of_Select (trees_of_Select (record { distinct = distinct; top = top; items = items; from = Some from; filter = Some filter; groups = groups; having = Some having; order = order }))) h in
        select_named names definitions vars (record { distinct = distinct; top = top; items = map (item_of definitions vars) (map (λ p. p.0) items); from = Some (from_of definitions vars from.0); filter = Some (test_of definitions vars filter.0); groups = map (expr_of definitions vars) (map (λ p. p.0) groups); having = Some (test_of definitions vars having.0); order = map (order_of definitions vars) (map (λ p. p.0) order) }) (record { items = each_covered (item_of definitions vars) tell.in_item (KeptItem names) items parts.items; from = from.1 parts.from; filter = filter.1 parts.filter; groups = exprs_below groups parts.groups; having = having.1 parts.having; order = orders_below order parts.order })

    -- ---- trees

    layer_Expr : (y : ExprBelow) → PExpr (roll-Expr (trees_of_Expr y))
    layer_Expr y h = subst (λ (z : ExprRead). Keeps names z.read.bind) (sym (fold-roll-Expr ExprRead ItemRead JoinRead (Read TypedTest) (Read TypedArm) TermRead FromRead OrderRead (Outcome Selected) TermRead (expr_step definitions vars) (item_step definitions vars) (join_step definitions vars) (test_step definitions vars) (arm_step definitions vars) (factor_step definitions vars) (from_step definitions vars) (order_step definitions vars) (select_step definitions vars) (term_step definitions vars) (trees_of_Expr y)))
        (expr_kept y (subst Covers (fold-roll-Expr Names Names Names Names Names Names Names Names Names Names tell.expr_step tell.item_step tell.join_step tell.test_step tell.arm_step tell.factor_step tell.from_step tell.order_step tell.select_step tell.term_step (trees_of_Expr y)) h))

    layer_Item : (y : ItemBelow) → PItem (roll-Item (trees_of_Item y))
    layer_Item y h = subst (KeptItem names) (sym (fold-roll-Item ExprRead ItemRead JoinRead (Read TypedTest) (Read TypedArm) TermRead FromRead OrderRead (Outcome Selected) TermRead (expr_step definitions vars) (item_step definitions vars) (join_step definitions vars) (test_step definitions vars) (arm_step definitions vars) (factor_step definitions vars) (from_step definitions vars) (order_step definitions vars) (select_step definitions vars) (term_step definitions vars) (trees_of_Item y)))
        (item_kept y (subst Covers (fold-roll-Item Names Names Names Names Names Names Names Names Names Names tell.expr_step tell.item_step tell.join_step tell.test_step tell.arm_step tell.factor_step tell.from_step tell.order_step tell.select_step tell.term_step (trees_of_Item y)) h))

    layer_Join : (y : JoinBelow) → PJoin (roll-Join (trees_of_Join y))
    layer_Join y h = subst (KeptJoin names) (sym (fold-roll-Join ExprRead ItemRead JoinRead (Read TypedTest) (Read TypedArm) TermRead FromRead OrderRead (Outcome Selected) TermRead (expr_step definitions vars) (item_step definitions vars) (join_step definitions vars) (test_step definitions vars) (arm_step definitions vars) (factor_step definitions vars) (from_step definitions vars) (order_step definitions vars) (select_step definitions vars) (term_step definitions vars) (trees_of_Join y)))
        (join_kept y (subst Covers (fold-roll-Join Names Names Names Names Names Names Names Names Names Names tell.expr_step tell.item_step tell.join_step tell.test_step tell.arm_step tell.factor_step tell.from_step tell.order_step tell.select_step tell.term_step (trees_of_Join y)) h))

    layer_Test : (y : TestBelow) → PTest (roll-Test (trees_of_Test y))
    layer_Test y h = subst (λ (z : Read TypedTest). Keeps names z.bind) (sym (fold-roll-Test ExprRead ItemRead JoinRead (Read TypedTest) (Read TypedArm) TermRead FromRead OrderRead (Outcome Selected) TermRead (expr_step definitions vars) (item_step definitions vars) (join_step definitions vars) (test_step definitions vars) (arm_step definitions vars) (factor_step definitions vars) (from_step definitions vars) (order_step definitions vars) (select_step definitions vars) (term_step definitions vars) (trees_of_Test y)))
        (test_kept y (subst Covers (fold-roll-Test Names Names Names Names Names Names Names Names Names Names tell.expr_step tell.item_step tell.join_step tell.test_step tell.arm_step tell.factor_step tell.from_step tell.order_step tell.select_step tell.term_step (trees_of_Test y)) h))

    layer_Arm : (y : ArmBelow) → PArm (roll-Arm (trees_of_Arm y))
    layer_Arm y h = subst (λ (z : Read TypedArm). Keeps names z.bind) (sym (fold-roll-Arm ExprRead ItemRead JoinRead (Read TypedTest) (Read TypedArm) TermRead FromRead OrderRead (Outcome Selected) TermRead (expr_step definitions vars) (item_step definitions vars) (join_step definitions vars) (test_step definitions vars) (arm_step definitions vars) (factor_step definitions vars) (from_step definitions vars) (order_step definitions vars) (select_step definitions vars) (term_step definitions vars) (trees_of_Arm y)))
        (arm_kept y (subst Covers (fold-roll-Arm Names Names Names Names Names Names Names Names Names Names tell.expr_step tell.item_step tell.join_step tell.test_step tell.arm_step tell.factor_step tell.from_step tell.order_step tell.select_step tell.term_step (trees_of_Arm y)) h))

    layer_Factor : (y : FactorBelow) → PFactor (roll-Factor (trees_of_Factor y))
    layer_Factor y h = subst (λ (z : TermRead). Keeps names z.read.bind) (sym (fold-roll-Factor ExprRead ItemRead JoinRead (Read TypedTest) (Read TypedArm) TermRead FromRead OrderRead (Outcome Selected) TermRead (expr_step definitions vars) (item_step definitions vars) (join_step definitions vars) (test_step definitions vars) (arm_step definitions vars) (factor_step definitions vars) (from_step definitions vars) (order_step definitions vars) (select_step definitions vars) (term_step definitions vars) (trees_of_Factor y)))
        (y.operand.1 (subst Covers (fold-roll-Factor Names Names Names Names Names Names Names Names Names Names tell.expr_step tell.item_step tell.join_step tell.test_step tell.arm_step tell.factor_step tell.from_step tell.order_step tell.select_step tell.term_step (trees_of_Factor y)) h))

    layer_FromClause : (y : FromClauseBelow) → PFromClause (roll-FromClause (trees_of_FromClause y))
    layer_FromClause y h = subst (λ (z : FromRead). KeptFrom names (Some z)) (sym (fold-roll-FromClause ExprRead ItemRead JoinRead (Read TypedTest) (Read TypedArm) TermRead FromRead OrderRead (Outcome Selected) TermRead (expr_step definitions vars) (item_step definitions vars) (join_step definitions vars) (test_step definitions vars) (arm_step definitions vars) (factor_step definitions vars) (from_step definitions vars) (order_step definitions vars) (select_step definitions vars) (term_step definitions vars) (trees_of_FromClause y)))
        (from_kept y (subst Covers (fold-roll-FromClause Names Names Names Names Names Names Names Names Names Names tell.expr_step tell.item_step tell.join_step tell.test_step tell.arm_step tell.factor_step tell.from_step tell.order_step tell.select_step tell.term_step (trees_of_FromClause y)) h))

    layer_OrderItem : (y : OrderItemBelow) → POrderItem (roll-OrderItem (trees_of_OrderItem y))
    layer_OrderItem y h = subst (λ (z : OrderRead). Keeps names z.expr.read.bind) (sym (fold-roll-OrderItem ExprRead ItemRead JoinRead (Read TypedTest) (Read TypedArm) TermRead FromRead OrderRead (Outcome Selected) TermRead (expr_step definitions vars) (item_step definitions vars) (join_step definitions vars) (test_step definitions vars) (arm_step definitions vars) (factor_step definitions vars) (from_step definitions vars) (order_step definitions vars) (select_step definitions vars) (term_step definitions vars) (trees_of_OrderItem y)))
        (y.expr.1 (subst Covers (fold-roll-OrderItem Names Names Names Names Names Names Names Names Names Names tell.expr_step tell.item_step tell.join_step tell.test_step tell.arm_step tell.factor_step tell.from_step tell.order_step tell.select_step tell.term_step (trees_of_OrderItem y)) h))

    layer_Select : (y : SelectBelow) → PSelect (roll-Select (trees_of_Select y))
    layer_Select y h = subst (SelectNamed names) (sym (fold-roll-Select ExprRead ItemRead JoinRead (Read TypedTest) (Read TypedArm) TermRead FromRead OrderRead (Outcome Selected) TermRead (expr_step definitions vars) (item_step definitions vars) (join_step definitions vars) (test_step definitions vars) (arm_step definitions vars) (factor_step definitions vars) (from_step definitions vars) (order_step definitions vars) (select_step definitions vars) (term_step definitions vars) (trees_of_Select y)))
        (select_kept y.distinct y.top y.items y.from y.filter y.groups y.having y.order (subst Covers (fold-roll-Select Names Names Names Names Names Names Names Names Names Names tell.expr_step tell.item_step tell.join_step tell.test_step tell.arm_step tell.factor_step tell.from_step tell.order_step tell.select_step tell.term_step (trees_of_Select y)) h))

    layer_Term : (y : TermBelow) → PTerm (roll-Term (trees_of_Term y))
    layer_Term y h = subst (λ (z : TermRead). Keeps names z.read.bind) (sym (fold-roll-Term ExprRead ItemRead JoinRead (Read TypedTest) (Read TypedArm) TermRead FromRead OrderRead (Outcome Selected) TermRead (expr_step definitions vars) (item_step definitions vars) (join_step definitions vars) (test_step definitions vars) (arm_step definitions vars) (factor_step definitions vars) (from_step definitions vars) (order_step definitions vars) (select_step definitions vars) (term_step definitions vars) (trees_of_Term y)))
        (y.operand.1 (subst Covers (fold-roll-Term Names Names Names Names Names Names Names Names Names Names tell.expr_step tell.item_step tell.join_step tell.test_step tell.arm_step tell.factor_step tell.from_step tell.order_step tell.select_step tell.term_step (trees_of_Term y)) h))

    pub query_kept : (x : Select) → PSelect x
    query_kept = ind-Select PExpr PItem PJoin PTest PArm PFactor PFromClause POrderItem PSelect PTerm
        (λ x y is. subst (λ z. PExpr (roll-Expr z)) is (layer_Expr y))
        (λ x y is. subst (λ z. PItem (roll-Item z)) is (layer_Item y))
        (λ x y is. subst (λ z. PJoin (roll-Join z)) is (layer_Join y))
        (λ x y is. subst (λ z. PTest (roll-Test z)) is (layer_Test y))
        (λ x y is. subst (λ z. PArm (roll-Arm z)) is (layer_Arm y))
        (λ x y is. subst (λ z. PFactor (roll-Factor z)) is (layer_Factor y))
        (λ x y is. subst (λ z. PFromClause (roll-FromClause z)) is (layer_FromClause y))
        (λ x y is. subst (λ z. POrderItem (roll-OrderItem z)) is (layer_OrderItem y))
        (λ x y is. subst (λ z. PSelect (roll-Select z)) is (layer_Select y))
        (λ x y is. subst (λ z. PTerm (roll-Term z)) is (layer_Term y))

-- ---- what is among names

among_self : (name : List ℕ) → same_units name name ≡ true
among_self name = (bytes_eq-Decides name name).1 refl

or_second : (a b : Bool) → b ≡ true → (a || b) ≡ true
or_second true b e = refl
or_second false b e = e

or_first : (a b : Bool) → a ≡ true → (a || b) ≡ true
or_first true b e = refl
or_first false b e = absurd (cc)

covers_more : (name : List ℕ) (names some : Names) → Covers names some → Covers (name ∷ names) some
covers_more name names some h = all_of_each (λ x. is_among x names ≡ true) (λ x. is_among x (name ∷ names) ≡ true) some (λ x e. or_second (same_units x name) (is_among x names) e) h

-- names cover themselves
covers_self : (names : Names) → Covers names names
covers_self [] = tt
covers_self (name ∷ rest) = (or_first (same_units name name) (is_among name rest) (among_self name), covers_more name rest rest (covers_self rest))

-- what holds of all names holds of one among them
of_among : (P : List ℕ → Type 0) (name : List ℕ) (names : Names) → AllOf P names → is_among name names ≡ true → P name
of_among P name [] h e = absurd (cc)
of_among P name (x ∷ rest) h e = by_test (same_units name x) refl e (λ g. of_among P name rest h.1 g)
  where
    by_test : (b : Bool) → same_units name x ≡ b → (b || is_among name rest) ≡ true → (is_among name rest ≡ true → P name) → P name
    by_test true same e later = subst P (sym ((bytes_eq-Decides name x).0 same)) h.0
    by_test false other e later = later e

-- ---- the law

pub tables_named : TablesNamed
tables_named definitions vars select selected e =
    let named : AllOf (IsNamed (in_select select)) (references_of selected.query) = subst (SelectNamed (in_select select)) e (query_kept (in_select select) definitions vars select (covers_self (in_select select))) in (
      named,
      λ defined. all_of_each (IsNamed (in_select select)) (λ ref. IsDefined definitions ref.table.object) (references_of selected.query)
          (λ ref h. of_among (IsDefined definitions) ref.table.object (in_select select) defined h.0) named,
    )
