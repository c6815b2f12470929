-- What is bound over a row alone names nothing else: the same is found of it over any two lists of what may be read that
-- have one row.
use Rattle.std.proofs.Common.{◌≡◌, refl, sym, subst, ℕ, ℤ, List, [], ◌∷◌, ◌++◌, map, Bool, true, false, ◌&&◌, not, nat_le, Option, Some, None, Ok, Err, if◌then◌else◌}
use Rattle.std.specs.List.{list_any}
use Rattle.value_types.specs.declared.sql_type.SqlType.{SqlType}
use Rattle.value_types.specs.declared.sql_type.SqlType.TheVariants.{Int, BigInt}
use Rattle.session_vars.specs.declared.Variable.{Variable}
use Rattle.tsql_tree.specs.declared.definition.Definition.{Definition}
use Rattle.tsql_tree.specs.declared.query.Aggregate.{Aggregate}
use Rattle.tsql_tree.specs.declared.query.AddSign.{AddSign}
use Rattle.tsql_tree.specs.declared.query.AddSign.TheVariants.{Plus, Minus}
use Rattle.tsql_tree.specs.declared.query.SystemWord.{SystemWord}
use Rattle.tsql_tree.specs.declared.query.Expr.{Expr}
use Rattle.tsql_tree.specs.declared.query.Item.{Item}
use Rattle.tsql_tree.specs.declared.query.Join.{Join}
use Rattle.tsql_tree.specs.declared.query.Test.{Test}
use Rattle.tsql_tree.specs.declared.query.Arm.{Arm}
use Rattle.tsql_tree.specs.declared.query.Factor.{Factor}
use Rattle.tsql_tree.specs.declared.query.FromClause.{FromClause}
use Rattle.tsql_tree.specs.declared.query.OrderItem.{OrderItem}
use Rattle.tsql_tree.specs.declared.query.Select.{Select}
use Rattle.tsql_tree.specs.declared.query.Term.{Term}
use Rattle.tsql_tree.specs.declared.query.Expr.TheOpen.{Expr-F, Test-F, Arm-F, Factor-F, Term-F}
use Rattle.tsql_tree.specs.declared.query.Expr.TheFolds.{ind-Test, map-Expr, map-Test, map-Arm, map-Factor, map-Term, fold-roll-Expr, fold-roll-Test, fold-roll-Arm, fold-roll-Factor, fold-roll-Term}
use Rattle.tsql_tree.specs.declared.query.Expr.TheViews.{roll-Expr, roll-Test, roll-Arm, roll-Factor, roll-Term}
use Rattle.tsql_tree.specs.Places.{max_place}
use Rattle.bound_tree.specs.declared.expr.BoundExpr.{BoundExpr}
use Rattle.bound_tree.specs.declared.expr.BoundExpr.TheVariants as bound
use Rattle.bound_tree.specs.Typed.{SettingTypes}
use Rattle.typed_nodes.specs.declared.test.Junction.{Junction}
use Rattle.typed_nodes.specs.declared.test.Junction.TheVariants as by
use Rattle.typed_nodes.specs.declared.expr.TypedArm.{TypedArm}
use Rattle.typed_nodes.specs.declared.expr.TypedExpr.{TypedExpr}
use Rattle.typed_nodes.specs.declared.test.TypedTest.{TypedTest}
use Rattle.typed_nodes.specs.Refusals.{Outcome, after}
use Rattle.typed_nodes.specs.Facts.{alone, no_facts, outside}
use Rattle.typed_nodes.specs.Nodes as node
use Rattle.typed_nodes.specs.Tests as tests
use Rattle.clause_binder.specs.declared.operand.Selected.{Selected}
use Rattle.clause_binder.specs.declared.progress.Progress.{Progress}
use Rattle.clause_binder.specs.declared.shape.Shape.{Shape}
use Rattle.clause_binder.specs.declared.shape.Shape.TheVariants as shape
use Rattle.clause_binder.specs.Progress.{Binding, Context, Read, and_then, bind_of, each_onto, each_read, given, is_deep, pure}
use Rattle.clause_binder.specs.declared.scope.Found.{Found}
use Rattle.clause_binder.specs.Same.{same_expr}
use Rattle.clause_binder.specs.Scope.{column_of}
use Rattle.clause_binder.specs.Operands as operand
use Rattle.clause_binder.specs.Clauses.{ExprRead, FromRead, ItemRead, JoinRead, OrderRead, settled}
use Rattle.clause_binder.specs.Bind as bind
use Rattle.clause_binder.specs.Bind.{TermRead, expr_of, item_of, join_of, test_of, arm_of, factor_of, from_of, order_of, query_of, term_of, expr_step, item_step, join_step, test_step, arm_step, factor_step, from_step, order_step, select_step, term_step, read_of, settle}
use Rattle.query_laws.specs.Laws.{AllOf}
use Rattle.query_laws.proofs.Lists.{all_of_both, all_of_map}
use Rattle.binding_laws.proofs.Alike.{AlikeArm, AlikeExpr, AlikeOutcome, AlikeTest, alike_after, alike_one, alike_where, all_joined_alike, between_alike, case_alike, cast_alike, cell_alike, coalesce_alike, compare_alike, in_list_alike, infix_alike, is_null_alike, is_null_test_alike, length_alike, negated_alike, negative_alike, null_alike, null_if_alike, null_test_alike, number_alike, text_alike}

-- nothing but the row may be named, and no aggregate may stand
pub record RowAlone (at : Context) : Type 0 where
  pub alone : at.row_alone ≡ true
  pub no_sums : at.sums_from ≡ None

-- what is bound has a property
abbrev pub Gives : {A : Type 0} → (A → Type 0) → Outcome (A × Progress) → Type 0
Gives P (Ok r) = P r.0
Gives P (Err refusal) = Unit {0}

abbrev pub GivesAlone : {A : Type 0} → (A → Type 0) → Binding A → Type 0
GivesAlone P bind = (at : Context) → RowAlone at → (done : Progress) → Gives P (bind at done)

-- ---- one after another

alone_pure : {A : Type 0} (P : A → Type 0) (x : A) → P x → GivesAlone P (pure x)
alone_pure P x h at alone done = h

pub gives_after : {A B : Type 0} (P : A → Type 0) (Q : B → Type 0) (o : Outcome (A × Progress)) (next : A × Progress → Outcome (B × Progress)) → Gives P o → ((r : A × Progress) → P r.0 → Gives Q (next r)) → Gives Q (after o next)
gives_after P Q (Ok r) next h g = g r h
gives_after P Q (Err refusal) next h g = tt

alone_then : {A B : Type 0} (P : A → Type 0) (Q : B → Type 0) (a : Binding A) (next : A → Binding B) → GivesAlone P a → ((x : A) → P x → GivesAlone Q (next x)) → GivesAlone Q (and_then a next)
alone_then P Q a next h g at alone done = gives_after P Q (a at done) (λ r. next r.0 at r.1) (h at alone done) (λ r k. g r.0 k at alone r.1)

pub alone_each : {A : Type 0} (P : A → Type 0) (binds : List (Binding A)) (before : List A) → AllOf P before → AllOf (λ (b : Binding A). GivesAlone P b) binds → GivesAlone (AllOf P) (each_onto before binds)
alone_each P [] before k h = alone_pure (AllOf P) before k
alone_each P (a ∷ rest) before k h = alone_then P (AllOf P) a (λ x. each_onto (before ++ x ∷ []) rest) h.0 (λ x p. alone_each P rest (before ++ x ∷ []) (all_of_both P before (x ∷ []) k (p, tt)) h.1)

alone_if : {A : Type 0} (P : A → Type 0) (b : Bool) (x : A) (o : Outcome (A × Progress)) (done : Progress) → b ≡ true → P x → Gives P (if b then Ok (x, done) else o)
alone_if P true x o done e h = h
alone_if P false x o done e h = absurd (cc)

-- ---- nodes over parts

one_alone : {A B : Type 0} (P : A → Type 0) (Q : B → Type 0) (a : Binding A) (make : A → B) → GivesAlone P a → ((x : A) → P x → Q (make x)) → GivesAlone Q (and_then a (λ x. pure (make x)))
one_alone P Q a make h g = alone_then P Q a (λ x. pure (make x)) h (λ x p. alone_pure Q (make x) (g x p))

two_alone : {A B C : Type 0} (P : A → Type 0) (Q : B → Type 0) (R : C → Type 0) (a : Binding A) (b : Binding B) (make : A → B → C) → GivesAlone P a → GivesAlone Q b → ((x : A) (y : B) → P x → Q y → R (make x y)) → GivesAlone R (and_then a (λ x. and_then b (λ y. pure (make x y))))
two_alone P Q R a b make h g f = alone_then P R a (λ x. and_then b (λ y. pure (make x y))) h (λ x p. one_alone Q R b (make x) g (λ y q. f x y p q))

read_alone : {A : Type 0} (P : A → Type 0) (items : List (Read A)) → AllOf (λ (a : Read A). GivesAlone P a.bind) items → GivesAlone (AllOf P) (each_read items).bind
read_alone P items h = alone_each P (map bind_of items) [] tt (all_of_map bind_of (λ b. GivesAlone P b) items h)

all_below : {A B : Type 0} (f : A → B) (P : B → Type 0) (items : List ((a : A) × P (f a))) → AllOf P (map f (map (λ p. p.0) items))
all_below f P [] = tt
all_below f P (p ∷ rest) = (p.1, all_below f P rest)

module _ (one two : SettingTypes) (same : one.row ≡ two.row) where
  abbrev E : TypedExpr → Type 0
  E = AlikeExpr one two

  abbrev T : TypedTest → Type 0
  T = AlikeTest one two

  abbrev A : TypedArm → Type 0
  A = AlikeArm one two

  alone_given : (outcome : Context → Outcome TypedExpr) → ((at : Context) → RowAlone at → AlikeOutcome one two (outcome at)) → GivesAlone E (λ at. given (outcome at) at)
  alone_given outcome h at alone done = of_outcome (outcome at) (h at alone)
    where
      of_outcome : (o : Outcome TypedExpr) → AlikeOutcome one two o → Gives E (after o (λ x. Ok (x, done)))
      of_outcome (Ok x) k = k
      of_outcome (Err refusal) k = tt

  settled_alike : (groups : List BoundExpr) (a : TypedExpr) → E a → E (settled groups a)
  settled_alike groups a h = alike_where one two (not (is_deep a.facts) && list_any (same_expr a.expr) groups) (record a { facts = record a.facts { loose = None } }) a h h

  alone_settle : (a : Binding TypedExpr) → GivesAlone E a → GivesAlone E (settle a)
  alone_settle a h at alone done = gives_after E E (a at done) (λ r. Ok (settled at.groups r.0, r.1)) (h at alone done) (λ r k. settled_alike at.groups r.0 k)

  -- ---- operands

  left_alike : (kind : Option SqlType) → E (operand.left_out kind)
  left_alike kind = null_alike one two (outside (alone kind))

  test_left_alike : T operand.test_left_out
  test_left_alike = null_test_alike one two (outside no_facts)

  literal_alike : (n : ℤ) → E (bind.literal n)
  literal_alike n = alike_one one two _ (node.number_expr n) (operand.left_out (Some BigInt)) (bind.literal n) refl (number_alike one two n) (left_alike (Some BigInt))

  variable_alone : (vars : List Variable) (name : List ℕ) → GivesAlone E (operand.variable vars name)
  variable_alone vars name = alone_given (λ at. operand.variable_in vars at name) (λ at alone. by_row at.row_alone alone.alone)
    where
      by_row : (b : Bool) → b ≡ true → AlikeOutcome one two (if b then Ok (operand.left_out None) else operand.variable_of vars name)
      by_row true e = left_alike None
      by_row false e = absurd (cc)

  system_alone : (word : SystemWord) → GivesAlone E (operand.system_expr word)
  system_alone word at alone done = by_row at.row_alone alone.alone
    where
      by_row : (b : Bool) → b ≡ true → E (if b then operand.left_out (operand.system_node word).facts.kind else operand.system_node word)
      by_row true e = left_alike (operand.system_node word).facts.kind
      by_row false e = absurd (cc)

  column_alone : (table : Option (List ℕ)) (name : List ℕ) → GivesAlone E (operand.column table name)
  column_alone table name = alone_given (operand.column_in table name) (λ at alone. alike_after one two (column_of table name at.sources) _ (λ found. cell_alone found))
    where
      cell_alone : (found : Found) → E (operand.cell found)
      cell_alone found = alike_where one two (nat_le found.place max_place) (node.leaf found.kind (bound.Cell found.place)) (operand.left_out (Some found.kind)) (cell_alike one two (alone (Some found.kind)) found.place same) (left_alike (Some found.kind))

  scalar_alone : (o : Outcome Selected) → GivesAlone E (operand.scalar o)
  scalar_alone o at alone done = alone_if E at.row_alone (operand.left_out None) (after o (λ s. operand.scalar_with s done)) done alone.alone (left_alike None)

  exists_alone : (o : Outcome Selected) → GivesAlone T (operand.exists o)
  exists_alone o at alone done = alone_if T at.row_alone operand.test_left_out (after o (λ s. Ok (operand.exists_from s done))) done alone.alone test_left_alike

  in_query_alone : (o : Outcome Selected) (a : TypedExpr) → GivesAlone T (operand.in_query o a)
  in_query_alone o a at alone done = alone_if T at.row_alone operand.test_left_out (after o (λ s. operand.in_query_with a s done)) done alone.alone test_left_alike

  count_alone : GivesAlone E operand.count_rows
  count_alone at alone done = subst (λ (from : Option _). Gives E (operand.count_rows_from from done)) (sym alone.no_sums) tt

  aggregate_alone : (agg : Aggregate) (distinct : Bool) (a : Binding TypedExpr) → GivesAlone E (operand.aggregate agg distinct a)
  aggregate_alone agg distinct a at alone done = subst (λ (from : Option _). Gives E (operand.aggregate_from from agg distinct a at done)) (sym alone.no_sums) tt

  signs_alike : (groups : List BoundExpr) (a : TypedExpr) (signs : List AddSign) → E a → AlikeOutcome one two (bind.signed_onto groups a signs)
  signs_alike groups a [] h = h
  signs_alike groups a (Plus ∷ rest) h = signs_alike groups a rest h
  signs_alike groups a (Minus ∷ rest) h = of_negative (node.negative_expr a) (negative_alike one two a h) (λ x k. signs_alike groups (settled groups x) rest (settled_alike groups x k))
    where
      of_negative : (o : Outcome TypedExpr) → AlikeOutcome one two o → ((x : TypedExpr) → E x → AlikeOutcome one two (bind.signed_onto groups (settled groups x) rest)) → AlikeOutcome one two (after (after o (λ x. Ok (settled groups x))) (λ x. bind.signed_onto groups x rest))
      of_negative (Ok x) k g = g x k
      of_negative (Err refusal) k g = tt

  signed_node_alone : (signs : List AddSign) (a : Binding TypedExpr) → GivesAlone E a → GivesAlone E (and_then a (bind.signed_node signs))
  signed_node_alone signs a h = alone_then E E a (bind.signed_node signs) h (λ x p. alone_given (λ at. bind.signed_onto at.groups x signs) (λ at alone. signs_alike at.groups x signs p))

  signed_alone : (signs : List AddSign) (of : Shape) (a : Binding TypedExpr) → GivesAlone E a → GivesAlone E (bind.signed_from signs of a)
  signed_alone signs (shape.Number n) a h = alone_pure E (bind.literal (bind.signed_number signs n)) (literal_alike (bind.signed_number signs n))
  signed_alone signs shape.Null a h = alone_pure E (bind.signed_null signs) (alike_where one two (list_any bind.is_minus signs) (node.leaf Int node.null) node.lone_null (null_alike one two (alone (Some Int))) (null_alike one two (alone None)))
  signed_alone signs shape.Name a h = signed_node_alone signs a h
  signed_alone signs shape.Node a h = signed_node_alone signs a h

  -- ---- chains, lists and CASE

  abbrev ExprAlone : ExprRead → Type 0
  ExprAlone a = GivesAlone E a.read.bind

  abbrev TestAlone : Read TypedTest → Type 0
  TestAlone a = GivesAlone T a.bind

  abbrev ArmAlone : Read TypedArm → Type 0
  ArmAlone a = GivesAlone A a.bind

  abbrev TermAlone : TermRead → Type 0
  TermAlone a = GivesAlone E a.read.bind

  chain_alone : (before : TypedExpr) (rest : List TermRead) → E before → AllOf TermAlone rest → GivesAlone E (bind.chain_onto before rest)
  chain_alone before [] k h = alone_pure E before k
  chain_alone before (a ∷ rest) k h = alone_then E E (bind.joined_to before a) (λ x. bind.chain_onto x rest) (alone_settle (and_then a.read.bind (λ x. given (node.infix_expr a.op before x)))
      (alone_then E E a.read.bind (λ x. given (node.infix_expr a.op before x)) h.0 (λ x p. alone_given (λ at. node.infix_expr a.op before x) (λ at alone. infix_alike one two a.op before x k p)))) (λ x p. chain_alone x rest p h.1)

  chained : (first : Binding TypedExpr) (rest : List TermRead) → GivesAlone E first → AllOf TermAlone rest → GivesAlone E (settle (and_then first (λ x. bind.chain_onto x rest)))
  chained first rest h g = alone_settle (and_then first (λ x. bind.chain_onto x rest)) (alone_then E E first (λ x. bind.chain_onto x rest) h (λ x p. chain_alone x rest p g))

  exprs_alone : (items : List ExprRead) → AllOf ExprAlone items → GivesAlone (AllOf E) (each_read (map read_of items)).bind
  exprs_alone items h = read_alone E (map read_of items) (all_of_map read_of (λ (a : Read TypedExpr). GivesAlone E a.bind) items h)

  joined_alone : (junction : Junction) (first : Read TypedTest) (rest : List (Read TypedTest)) → TestAlone first → AllOf TestAlone rest → TestAlone (bind.joined_by junction first rest)
  joined_alone junction first rest h g = two_alone T (AllOf T) T first.bind (each_read rest).bind (tests.all_joined junction) h (read_alone T rest g) (all_joined_alike one two junction)

  case_alone : (arms : List (Read TypedArm)) (other : Binding TypedExpr) → AllOf ArmAlone arms → GivesAlone E other → GivesAlone E (settle (and_then (each_read arms).bind (λ xs. and_then other (λ y. pure (node.case_expr xs y)))))
  case_alone arms other h g = alone_settle (and_then (each_read arms).bind (λ xs. and_then other (λ y. pure (node.case_expr xs y)))) (two_alone (AllOf A) E E (each_read arms).bind other node.case_expr (read_alone A arms h) g (case_alike one two))

  -- ---- trees

  module _ (definitions : List Definition) (vars : List Variable) where
    abbrev PExpr : Expr → Type 0
    PExpr x = ExprAlone (expr_of definitions vars x)

    abbrev PTest : Test → Type 0
    PTest x = TestAlone (test_of definitions vars x)

    abbrev PArm : Arm → Type 0
    PArm x = ArmAlone (arm_of definitions vars x)

    abbrev PFactor : Factor → Type 0
    PFactor x = TermAlone (factor_of definitions vars x)

    abbrev PTerm : Term → Type 0
    PTerm x = TermAlone (term_of definitions vars x)

    -- of what stands in an inner query nothing is asked
    abbrev PItem : Item → Type 0
    PItem x = Unit {0}

    abbrev PJoin : Join → Type 0
    PJoin x = Unit {0}

    abbrev PFromClause : FromClause → Type 0
    PFromClause x = Unit {0}

    abbrev POrderItem : OrderItem → Type 0
    POrderItem x = Unit {0}

    abbrev PSelect : Select → Type 0
    PSelect x = Unit {0}

    abbrev ExprBelow : Type 0
    ExprBelow = Expr-F ((x : Expr) × PExpr x) ((x : Item) × PItem x) ((x : Join) × PJoin x) ((x : Test) × PTest x) ((x : Arm) × PArm x) ((x : Factor) × PFactor x) ((x : FromClause) × PFromClause x) ((x : OrderItem) × POrderItem x) ((x : Select) × PSelect x) ((x : Term) × PTerm x)

    abbrev trees_of_Expr : ExprBelow → Expr-F Expr Item Join Test Arm Factor FromClause OrderItem Select Term
    trees_of_Expr = map-Expr _ _ _ _ _ _ _ _ _ _ Expr Item Join Test Arm Factor FromClause OrderItem Select Term (λ p. p.0) (λ p. p.0) (λ p. p.0) (λ p. p.0) (λ p. p.0) (λ p. p.0) (λ p. p.0) (λ p. p.0) (λ p. p.0) (λ p. p.0)

    abbrev reads_of_Expr : Expr-F Expr Item Join Test Arm Factor FromClause OrderItem Select Term → Expr-F ExprRead ItemRead JoinRead (Read TypedTest) (Read TypedArm) TermRead FromRead OrderRead (Outcome Selected) TermRead
    reads_of_Expr = map-Expr _ _ _ _ _ _ _ _ _ _ ExprRead ItemRead JoinRead (Read TypedTest) (Read TypedArm) TermRead FromRead OrderRead (Outcome Selected) TermRead (expr_of definitions vars) (item_of definitions vars) (join_of definitions vars) (test_of definitions vars) (arm_of definitions vars) (factor_of definitions vars) (from_of definitions vars) (order_of definitions vars) (query_of definitions vars) (term_of definitions vars)

    abbrev TestBelow : Type 0
    TestBelow = Test-F ((x : Expr) × PExpr x) ((x : Item) × PItem x) ((x : Join) × PJoin x) ((x : Test) × PTest x) ((x : Arm) × PArm x) ((x : Factor) × PFactor x) ((x : FromClause) × PFromClause x) ((x : OrderItem) × POrderItem x) ((x : Select) × PSelect x) ((x : Term) × PTerm x)

    abbrev trees_of_Test : TestBelow → Test-F Expr Item Join Test Arm Factor FromClause OrderItem Select Term
    trees_of_Test = map-Test _ _ _ _ _ _ _ _ _ _ Expr Item Join Test Arm Factor FromClause OrderItem Select Term (λ p. p.0) (λ p. p.0) (λ p. p.0) (λ p. p.0) (λ p. p.0) (λ p. p.0) (λ p. p.0) (λ p. p.0) (λ p. p.0) (λ p. p.0)

    abbrev reads_of_Test : Test-F Expr Item Join Test Arm Factor FromClause OrderItem Select Term → Test-F ExprRead ItemRead JoinRead (Read TypedTest) (Read TypedArm) TermRead FromRead OrderRead (Outcome Selected) TermRead
    reads_of_Test = map-Test _ _ _ _ _ _ _ _ _ _ ExprRead ItemRead JoinRead (Read TypedTest) (Read TypedArm) TermRead FromRead OrderRead (Outcome Selected) TermRead (expr_of definitions vars) (item_of definitions vars) (join_of definitions vars) (test_of definitions vars) (arm_of definitions vars) (factor_of definitions vars) (from_of definitions vars) (order_of definitions vars) (query_of definitions vars) (term_of definitions vars)

    abbrev ArmBelow : Type 0
    ArmBelow = Arm-F ((x : Expr) × PExpr x) ((x : Item) × PItem x) ((x : Join) × PJoin x) ((x : Test) × PTest x) ((x : Arm) × PArm x) ((x : Factor) × PFactor x) ((x : FromClause) × PFromClause x) ((x : OrderItem) × POrderItem x) ((x : Select) × PSelect x) ((x : Term) × PTerm x)

    abbrev trees_of_Arm : ArmBelow → Arm-F Expr Item Join Test Arm Factor FromClause OrderItem Select Term
    trees_of_Arm = map-Arm _ _ _ _ _ _ _ _ _ _ Expr Item Join Test Arm Factor FromClause OrderItem Select Term (λ p. p.0) (λ p. p.0) (λ p. p.0) (λ p. p.0) (λ p. p.0) (λ p. p.0) (λ p. p.0) (λ p. p.0) (λ p. p.0) (λ p. p.0)

    abbrev reads_of_Arm : Arm-F Expr Item Join Test Arm Factor FromClause OrderItem Select Term → Arm-F ExprRead ItemRead JoinRead (Read TypedTest) (Read TypedArm) TermRead FromRead OrderRead (Outcome Selected) TermRead
    reads_of_Arm = map-Arm _ _ _ _ _ _ _ _ _ _ ExprRead ItemRead JoinRead (Read TypedTest) (Read TypedArm) TermRead FromRead OrderRead (Outcome Selected) TermRead (expr_of definitions vars) (item_of definitions vars) (join_of definitions vars) (test_of definitions vars) (arm_of definitions vars) (factor_of definitions vars) (from_of definitions vars) (order_of definitions vars) (query_of definitions vars) (term_of definitions vars)

    abbrev FactorBelow : Type 0
    FactorBelow = Factor-F ((x : Expr) × PExpr x) ((x : Item) × PItem x) ((x : Join) × PJoin x) ((x : Test) × PTest x) ((x : Arm) × PArm x) ((x : Factor) × PFactor x) ((x : FromClause) × PFromClause x) ((x : OrderItem) × POrderItem x) ((x : Select) × PSelect x) ((x : Term) × PTerm x)

    abbrev trees_of_Factor : FactorBelow → Factor-F Expr Item Join Test Arm Factor FromClause OrderItem Select Term
    trees_of_Factor = map-Factor _ _ _ _ _ _ _ _ _ _ Expr Item Join Test Arm Factor FromClause OrderItem Select Term (λ p. p.0) (λ p. p.0) (λ p. p.0) (λ p. p.0) (λ p. p.0) (λ p. p.0) (λ p. p.0) (λ p. p.0) (λ p. p.0) (λ p. p.0)

    abbrev reads_of_Factor : Factor-F Expr Item Join Test Arm Factor FromClause OrderItem Select Term → Factor-F ExprRead ItemRead JoinRead (Read TypedTest) (Read TypedArm) TermRead FromRead OrderRead (Outcome Selected) TermRead
    reads_of_Factor = map-Factor _ _ _ _ _ _ _ _ _ _ ExprRead ItemRead JoinRead (Read TypedTest) (Read TypedArm) TermRead FromRead OrderRead (Outcome Selected) TermRead (expr_of definitions vars) (item_of definitions vars) (join_of definitions vars) (test_of definitions vars) (arm_of definitions vars) (factor_of definitions vars) (from_of definitions vars) (order_of definitions vars) (query_of definitions vars) (term_of definitions vars)

    abbrev TermBelow : Type 0
    TermBelow = Term-F ((x : Expr) × PExpr x) ((x : Item) × PItem x) ((x : Join) × PJoin x) ((x : Test) × PTest x) ((x : Arm) × PArm x) ((x : Factor) × PFactor x) ((x : FromClause) × PFromClause x) ((x : OrderItem) × POrderItem x) ((x : Select) × PSelect x) ((x : Term) × PTerm x)

    abbrev trees_of_Term : TermBelow → Term-F Expr Item Join Test Arm Factor FromClause OrderItem Select Term
    trees_of_Term = map-Term _ _ _ _ _ _ _ _ _ _ Expr Item Join Test Arm Factor FromClause OrderItem Select Term (λ p. p.0) (λ p. p.0) (λ p. p.0) (λ p. p.0) (λ p. p.0) (λ p. p.0) (λ p. p.0) (λ p. p.0) (λ p. p.0) (λ p. p.0)

    abbrev reads_of_Term : Term-F Expr Item Join Test Arm Factor FromClause OrderItem Select Term → Term-F ExprRead ItemRead JoinRead (Read TypedTest) (Read TypedArm) TermRead FromRead OrderRead (Outcome Selected) TermRead
    reads_of_Term = map-Term _ _ _ _ _ _ _ _ _ _ ExprRead ItemRead JoinRead (Read TypedTest) (Read TypedArm) TermRead FromRead OrderRead (Outcome Selected) TermRead (expr_of definitions vars) (item_of definitions vars) (join_of definitions vars) (test_of definitions vars) (arm_of definitions vars) (factor_of definitions vars) (from_of definitions vars) (order_of definitions vars) (query_of definitions vars) (term_of definitions vars)

    expr_alone : (y : ExprBelow) → ExprAlone (expr_step definitions vars (reads_of_Expr (trees_of_Expr y)))
    expr_alone (Expr-F.Number n) = alone_settle (pure (bind.literal n)) (alone_pure E (bind.literal n) (literal_alike n))
    expr_alone (Expr-F.Text units) = alone_settle (pure (node.text_expr units)) (alone_pure E (node.text_expr units) (text_alike one two units))
    expr_alone Expr-F.Null = alone_settle (pure node.lone_null) (alone_pure E node.lone_null (null_alike one two (alone None)))
    expr_alone (Expr-F.Variable name) = alone_settle (operand.variable vars name) (variable_alone vars name)
    expr_alone (Expr-F.System word) = alone_settle (operand.system_expr word) (system_alone word)
    expr_alone (Expr-F.Column table name) = alone_settle (operand.column table name) (column_alone table name)
    expr_alone (Expr-F.Expr::Parens a) = a.1
    expr_alone (Expr-F.Query select) = alone_settle (operand.scalar (query_of definitions vars select.0)) (scalar_alone (query_of definitions vars select.0))
    expr_alone (Expr-F.Case arms None) = case_alone (map (arm_of definitions vars) (map (λ p. p.0) arms)) (pure node.lone_null) (all_below (arm_of definitions vars) ArmAlone arms) (alone_pure E node.lone_null (null_alike one two (alone None)))
    expr_alone (Expr-F.Case arms (Some other)) = case_alone (map (arm_of definitions vars) (map (λ p. p.0) arms)) (expr_of definitions vars other.0).read.bind (all_below (arm_of definitions vars) ArmAlone arms) other.1
    expr_alone (Expr-F.Cast a kind) = alone_settle (and_then (expr_of definitions vars a.0).read.bind (λ x. pure (node.cast_expr kind x))) (one_alone E E (expr_of definitions vars a.0).read.bind (node.cast_expr kind) a.1 (cast_alike one two kind))
    expr_alone (Expr-F.Expr::IsNull a b) = alone_settle (and_then (expr_of definitions vars a.0).read.bind (λ x. and_then (expr_of definitions vars b.0).read.bind (λ y. pure (node.is_null_expr x y)))) (two_alone E E E (expr_of definitions vars a.0).read.bind (expr_of definitions vars b.0).read.bind node.is_null_expr a.1 b.1 (is_null_alike one two))
    expr_alone (Expr-F.NullIf a b) = alone_settle (and_then (expr_of definitions vars a.0).read.bind (λ x. and_then (expr_of definitions vars b.0).read.bind (λ y. pure (node.null_if_expr x y)))) (two_alone E E E (expr_of definitions vars a.0).read.bind (expr_of definitions vars b.0).read.bind node.null_if_expr a.1 b.1 (null_if_alike one two))
    expr_alone (Expr-F.Coalesce items) = alone_settle (and_then (each_read (map read_of (map (expr_of definitions vars) (map (λ p. p.0) items)))).bind (λ xs. pure (node.coalesce_expr xs)))
        (one_alone (AllOf E) E (each_read (map read_of (map (expr_of definitions vars) (map (λ p. p.0) items)))).bind node.coalesce_expr (exprs_alone (map (expr_of definitions vars) (map (λ p. p.0) items)) (all_below (expr_of definitions vars) ExprAlone items)) (coalesce_alike one two))
    expr_alone (Expr-F.Length a) = alone_settle (and_then (expr_of definitions vars a.0).read.bind (λ x. pure (node.length_expr x))) (one_alone E E (expr_of definitions vars a.0).read.bind node.length_expr a.1 (length_alike one two))
    expr_alone Expr-F.CountRows = alone_settle operand.count_rows count_alone
    expr_alone (Expr-F.Aggregate agg distinct a) = alone_settle (operand.aggregate agg distinct (expr_of definitions vars a.0).read.bind) (aggregate_alone agg distinct (expr_of definitions vars a.0).read.bind)
    expr_alone (Expr-F.Signed signs a) = alone_settle (bind.signed_from signs (expr_of definitions vars a.0).shape (expr_of definitions vars a.0).read.bind) (signed_alone signs (expr_of definitions vars a.0).shape (expr_of definitions vars a.0).read.bind a.1)
    expr_alone (Expr-F.Product first factors) = chained (expr_of definitions vars first.0).read.bind (map (factor_of definitions vars) (map (λ p. p.0) factors)) first.1 (all_below (factor_of definitions vars) TermAlone factors)
    expr_alone (Expr-F.Sum first terms) = chained (expr_of definitions vars first.0).read.bind (map (term_of definitions vars) (map (λ p. p.0) terms)) first.1 (all_below (term_of definitions vars) TermAlone terms)

    test_alone : (y : TestBelow) → TestAlone (test_step definitions vars (reads_of_Test (trees_of_Test y)))
    test_alone (Test-F.Test::Parens a) = a.1
    test_alone (Test-F.Exists select) = exists_alone (query_of definitions vars select.0)
    test_alone (Test-F.Compare a sign b) = two_alone E E T (expr_of definitions vars a.0).read.bind (expr_of definitions vars b.0).read.bind (tests.compare_test (bind.compare_op sign)) a.1 b.1 (compare_alike one two (bind.compare_op sign))
    test_alone (Test-F.Test::IsNull a negative) = one_alone E T (expr_of definitions vars a.0).read.bind (λ x. tests.negated_where negative (tests.is_null_test x)) a.1 (λ x p. negated_alike one two negative (tests.is_null_test x) (is_null_test_alike one two x p))
    test_alone (Test-F.Between a negative low high) = alone_then E T (expr_of definitions vars a.0).read.bind (λ x. and_then (expr_of definitions vars low.0).read.bind (λ y. and_then (expr_of definitions vars high.0).read.bind (λ z. pure (tests.negated_where negative (tests.between_test x y z))))) a.1
        (λ x p. two_alone E E T (expr_of definitions vars low.0).read.bind (expr_of definitions vars high.0).read.bind (λ y z. tests.negated_where negative (tests.between_test x y z)) low.1 high.1
        (λ y z q r. negated_alike one two negative (tests.between_test x y z) (between_alike one two x y z p q r)))
    test_alone (Test-F.InQuery a negative select) = one_alone T T (and_then (expr_of definitions vars a.0).read.bind (operand.in_query (query_of definitions vars select.0))) (tests.negated_where negative)
        (alone_then E T (expr_of definitions vars a.0).read.bind (operand.in_query (query_of definitions vars select.0)) a.1 (λ x p. in_query_alone (query_of definitions vars select.0) x)) (negated_alike one two negative)
    test_alone (Test-F.InList a negative items) = two_alone E (AllOf E) T (expr_of definitions vars a.0).read.bind (each_read (map read_of (map (expr_of definitions vars) (map (λ p. p.0) items)))).bind (λ x xs. tests.negated_where negative (tests.in_list_test x xs)) a.1
        (exprs_alone (map (expr_of definitions vars) (map (λ p. p.0) items)) (all_below (expr_of definitions vars) ExprAlone items)) (λ x xs p q. negated_alike one two negative (tests.in_list_test x xs) (in_list_alike one two x xs p q))
    test_alone (Test-F.Not count a) = one_alone T T (test_of definitions vars a.0).bind (tests.negated_where (bind.is_odd count)) a.1 (negated_alike one two (bind.is_odd count))
    test_alone (Test-F.And first rest) = joined_alone by.And (test_of definitions vars first.0) (map (test_of definitions vars) (map (λ p. p.0) rest)) first.1 (all_below (test_of definitions vars) TestAlone rest)
    test_alone (Test-F.Or first rest) = joined_alone by.Or (test_of definitions vars first.0) (map (test_of definitions vars) (map (λ p. p.0) rest)) first.1 (all_below (test_of definitions vars) TestAlone rest)

    arm_alone : (y : ArmBelow) → ArmAlone (arm_step definitions vars (reads_of_Arm (trees_of_Arm y)))
    arm_alone y = two_alone T E A (test_of definitions vars y.test.0).bind (expr_of definitions vars y.gives.0).read.bind (λ test gives. record { test = test; gives = gives }) y.test.1 y.gives.1 (λ test gives p q. (p, q))

    layer_Expr : (y : ExprBelow) → PExpr (roll-Expr (trees_of_Expr y))
    layer_Expr y = subst ExprAlone (sym (fold-roll-Expr ExprRead ItemRead JoinRead (Read TypedTest) (Read TypedArm) TermRead FromRead OrderRead (Outcome Selected) TermRead (expr_step definitions vars) (item_step definitions vars) (join_step definitions vars) (test_step definitions vars) (arm_step definitions vars) (factor_step definitions vars) (from_step definitions vars) (order_step definitions vars) (select_step definitions vars) (term_step definitions vars) (trees_of_Expr y))) (expr_alone y)

    layer_Test : (y : TestBelow) → PTest (roll-Test (trees_of_Test y))
    layer_Test y = subst TestAlone (sym (fold-roll-Test ExprRead ItemRead JoinRead (Read TypedTest) (Read TypedArm) TermRead FromRead OrderRead (Outcome Selected) TermRead (expr_step definitions vars) (item_step definitions vars) (join_step definitions vars) (test_step definitions vars) (arm_step definitions vars) (factor_step definitions vars) (from_step definitions vars) (order_step definitions vars) (select_step definitions vars) (term_step definitions vars) (trees_of_Test y))) (test_alone y)

    layer_Arm : (y : ArmBelow) → PArm (roll-Arm (trees_of_Arm y))
    layer_Arm y = subst ArmAlone (sym (fold-roll-Arm ExprRead ItemRead JoinRead (Read TypedTest) (Read TypedArm) TermRead FromRead OrderRead (Outcome Selected) TermRead (expr_step definitions vars) (item_step definitions vars) (join_step definitions vars) (test_step definitions vars) (arm_step definitions vars) (factor_step definitions vars) (from_step definitions vars) (order_step definitions vars) (select_step definitions vars) (term_step definitions vars) (trees_of_Arm y))) (arm_alone y)

    layer_Factor : (y : FactorBelow) → PFactor (roll-Factor (trees_of_Factor y))
    layer_Factor y = subst TermAlone (sym (fold-roll-Factor ExprRead ItemRead JoinRead (Read TypedTest) (Read TypedArm) TermRead FromRead OrderRead (Outcome Selected) TermRead (expr_step definitions vars) (item_step definitions vars) (join_step definitions vars) (test_step definitions vars) (arm_step definitions vars) (factor_step definitions vars) (from_step definitions vars) (order_step definitions vars) (select_step definitions vars) (term_step definitions vars) (trees_of_Factor y))) (y.operand.1)

    layer_Term : (y : TermBelow) → PTerm (roll-Term (trees_of_Term y))
    layer_Term y = subst TermAlone (sym (fold-roll-Term ExprRead ItemRead JoinRead (Read TypedTest) (Read TypedArm) TermRead FromRead OrderRead (Outcome Selected) TermRead (expr_step definitions vars) (item_step definitions vars) (join_step definitions vars) (test_step definitions vars) (arm_step definitions vars) (factor_step definitions vars) (from_step definitions vars) (order_step definitions vars) (select_step definitions vars) (term_step definitions vars) (trees_of_Term y))) (y.operand.1)

    -- a test over a row alone is found the same
    pub tests_alike : (x : Test) → GivesAlone (AlikeTest one two) (test_of definitions vars x).bind
    tests_alike = ind-Test PExpr PItem PJoin PTest PArm PFactor PFromClause POrderItem PSelect PTerm
        (λ x y is. subst (λ z. PExpr (roll-Expr z)) is (layer_Expr y))
        (λ x y is. tt)
        (λ x y is. tt)
        (λ x y is. subst (λ z. PTest (roll-Test z)) is (layer_Test y))
        (λ x y is. subst (λ z. PArm (roll-Arm z)) is (layer_Arm y))
        (λ x y is. subst (λ z. PFactor (roll-Factor z)) is (layer_Factor y))
        (λ x y is. tt)
        (λ x y is. tt)
        (λ x y is. tt)
        (λ x y is. subst (λ z. PTerm (roll-Term z)) is (layer_Term y))
