-- Transact-SQL reference, "Expressions" and "Search condition": what the trees of a text are bound to. Each type of
-- tree has one function over its node, in which each part is replaced by what it is bound to; a column that a
-- subquery names is one of the subquery's own tables.
use Rattle.std.specs.Prelude.{ℕ, ◌%◌, ℤ, nat_eq, Bool, true, false, if◌then◌else◌, List, [], ◌∷◌, map, option_map, Option, Some, None, Ok}
use Rattle.std.specs.List.{list_any}
use Rattle.std.specs.Int.{w64, int_wrapping_neg}
use Rattle.value_types.specs.declared.sql_type.SqlType.TheVariants.{Int, BigInt}
use Rattle.value_types.specs.Types.{is_in_range}
use Rattle.session_vars.specs.declared.Variable.{Variable}
use Rattle.tsql_tree.specs.declared.definition.Definition.{Definition}
use Rattle.tsql_tree.specs.declared.query.AddSign.{AddSign}
use Rattle.tsql_tree.specs.declared.query.AddSign.TheVariants.{Plus, Minus}
use Rattle.tsql_tree.specs.declared.query.MultiplySign.{MultiplySign}
use Rattle.tsql_tree.specs.declared.query.MultiplySign.TheVariants as sign
use Rattle.tsql_tree.specs.declared.query.CompareSign.{CompareSign}
use Rattle.tsql_tree.specs.declared.query.CompareSign.TheVariants as compare
use Rattle.tsql_tree.specs.declared.query.Expr.{Expr}
use Rattle.tsql_tree.specs.declared.query.Arm.{Arm}
use Rattle.tsql_tree.specs.declared.query.Factor.{Factor}
use Rattle.tsql_tree.specs.declared.query.Term.{Term}
use Rattle.tsql_tree.specs.declared.query.Test.{Test}
use Rattle.tsql_tree.specs.declared.query.Item.{Item}
use Rattle.tsql_tree.specs.declared.query.Join.{Join}
use Rattle.tsql_tree.specs.declared.query.FromClause.{FromClause}
use Rattle.tsql_tree.specs.declared.query.OrderItem.{OrderItem}
use Rattle.tsql_tree.specs.declared.query.Select.{Select, out-Select}
use Rattle.tsql_tree.specs.declared.query.Expr.TheOpen.{Expr-F, Arm-F, Factor-F, Term-F, Test-F, Item-F, Join-F, FromClause-F, OrderItem-F, Select-F}
use Rattle.tsql_tree.specs.declared.query.Expr.TheFolds.{fold-Expr, fold-Arm, fold-Factor, fold-Term, fold-Test, fold-Item, fold-Join, fold-FromClause, fold-OrderItem, fold-Select}
use Rattle.bound_tree.specs.declared.expr.BoundExpr.{BoundExpr}
use Rattle.bound_tree.specs.declared.expr.InfixOp.{InfixOp}
use Rattle.bound_tree.specs.declared.expr.InfixOp.TheVariants.{Add, Subtract, Multiply, Divide, Remainder}
use Rattle.bound_tree.specs.declared.expr.CompareOp.{CompareOp}
use Rattle.bound_tree.specs.declared.expr.CompareOp.TheVariants as op
use Rattle.bound_tree.specs.declared.query.JoinKind.TheVariants as joined
use Rattle.typed_nodes.specs.declared.expr.TypedExpr.{TypedExpr}
use Rattle.typed_nodes.specs.declared.expr.TypedArm.{TypedArm}
use Rattle.typed_nodes.specs.declared.test.TypedTest.{TypedTest}
use Rattle.typed_nodes.specs.declared.test.Junction.{Junction}
use Rattle.typed_nodes.specs.declared.test.Junction.TheVariants as by
use Rattle.typed_nodes.specs.Refusals.{Outcome, after}
use Rattle.typed_nodes.specs.Nodes as node
use Rattle.typed_nodes.specs.Tests as tests
use Rattle.clause_binder.specs.declared.inside.Inside.{Inside}
use Rattle.clause_binder.specs.declared.shape.Shape.{Shape}
use Rattle.clause_binder.specs.declared.shape.Shape.TheVariants as shape
use Rattle.clause_binder.specs.declared.operand.Selected.{Selected}
use Rattle.clause_binder.specs.Progress.{Binding, Read, all_onto, an_inner_query, and_then, both, each_read, given, inside_of, just, or_read, over, pure, three, two}
use Rattle.clause_binder.specs.Operands.{aggregate, column, count_rows, exists, in_query, left_out, scalar, system_expr, variable}
use Rattle.clause_binder.specs.Clauses.{ExprRead, FromRead, ItemRead, JoinRead, OrderRead, SelectRead, assigned, select_of, settled, star, star_of, valued}

abbrev pub is_odd : ℕ → Bool
is_odd n = nat_eq (n % 2) 1

-- ---- signs

abbrev pub add_op : AddSign → InfixOp
add_op Plus = Add
add_op Minus = Subtract

abbrev pub multiply_op : MultiplySign → InfixOp
multiply_op sign.Times = Multiply
multiply_op sign.Divide = Divide
multiply_op sign.Remainder = Remainder

abbrev pub compare_op : CompareSign → CompareOp
compare_op compare.Equal = op.Equal
compare_op compare.NotEqual = op.NotEqual
compare_op compare.Less = op.Less
compare_op compare.LessEqual = op.LessEqual
compare_op compare.Greater = op.Greater
compare_op compare.GreaterEqual = op.GreaterEqual

-- ---- expressions

-- an expression that is grouped needs no further look
abbrev pub settle : Binding TypedExpr → Binding TypedExpr
settle a at done = after (a at done) (λ r. Ok (settled at.groups r.0, r.1))

-- an expression of which no clause sees more than what it is bound to
abbrev pub unseen : Read TypedExpr → ExprRead
unseen a = record { shape = shape.Node; called = None; read = over a settle }

-- the name of a column, without a table's or with it
abbrev pub name_shape : Option (List ℕ) → Shape
name_shape None = shape.Name
name_shape (Some table) = shape.Node

-- an expression without parts
abbrev pub operand : Binding TypedExpr → ExprRead
operand a = unseen (just a)

abbrev pub read_of : ExprRead → Read TypedExpr
read_of a = a.read

-- a node over one part, and over two
abbrev pub node_of : ExprRead → (TypedExpr → Binding TypedExpr) → ExprRead
node_of a make = unseen (over a.read (λ bind. and_then bind make))

abbrev pub node_of_two : ExprRead → ExprRead → (TypedExpr → TypedExpr → Binding TypedExpr) → ExprRead
node_of_two a b make = unseen (two a.read b.read make)

-- an inner query
abbrev pub inner : {A : Type 0} → Binding A → Read A
inner bind = record { inside = an_inner_query; bind = bind }

-- an aggregate
abbrev pub summed : {A : Type 0} → Read A → Read A
summed a = record a { inside = record a.inside { summed = true } }

-- ---- numbers

-- a number that is no BIGINT, which no text reads as, is outside the limits
abbrev pub literal : ℤ → TypedExpr
literal n = if is_in_range BigInt n then node.number_expr n else left_out (Some BigInt)

-- ---- signs before an operand

-- a number under its signs; that of a literal has none, so no negative leaves the range
abbrev pub signed_number : List AddSign → ℤ → ℤ
signed_number [] n = n
signed_number (Plus ∷ rest) n = signed_number rest n
signed_number (Minus ∷ rest) n = signed_number rest (int_wrapping_neg w64 n)

-- each minus makes an expression of its own, which may be grouped
abbrev pub signed_by : List BoundExpr → AddSign → TypedExpr → Outcome TypedExpr
signed_by groups Plus a = Ok a
signed_by groups Minus a = after (node.negative_expr a) (λ x. Ok (settled groups x))

-- a plus changes nothing, so signs may be taken in any order
abbrev pub signed_onto : List BoundExpr → TypedExpr → List AddSign → Outcome TypedExpr
signed_onto groups a [] = Ok a
signed_onto groups a (s ∷ rest) = after (signed_by groups s a) (λ x. signed_onto groups x rest)

abbrev pub signed_node : List AddSign → TypedExpr → Binding TypedExpr
signed_node signs a at done = given (signed_onto at.groups a signs) at done

abbrev pub is_minus : AddSign → Bool
is_minus Plus = false
is_minus Minus = true

-- NULL under a minus is an INT
abbrev pub signed_null : List AddSign → TypedExpr
signed_null signs = if list_any is_minus signs then node.leaf Int node.null else node.lone_null

-- signs before a number or NULL are folded into the constant
abbrev pub signed_from : List AddSign → Shape → Binding TypedExpr → Binding TypedExpr
signed_from signs (shape.Number n) a = pure (literal (signed_number signs n))
signed_from signs shape.Null a = pure (signed_null signs)
signed_from signs shape.Name a = and_then a (signed_node signs)
signed_from signs shape.Node a = and_then a (signed_node signs)

-- ---- chains

-- a further operand, with the sign before it
pub record TermRead : Type 0 where
  pub op : InfixOp
  pub read : Read TypedExpr

-- an operand joined to what stands before it
abbrev pub joined_to : TypedExpr → TermRead → Binding TypedExpr
joined_to before a = settle (and_then a.read.bind (λ x. given (node.infix_expr a.op before x)))

-- operands joined from the left, each by the sign before it
abbrev pub chain_onto : TypedExpr → List TermRead → Binding TypedExpr
chain_onto before [] = pure before
chain_onto before (a ∷ rest) = and_then (joined_to before a) (λ x. chain_onto x rest)

abbrev pub term_inside : TermRead → Inside
term_inside a = a.read.inside

abbrev pub chain : ExprRead → List TermRead → ExprRead
chain first rest = unseen (record { inside = all_onto first.read.inside (map term_inside rest); bind = and_then first.read.bind (λ x. chain_onto x rest) })

-- ---- CASE

abbrev pub case_arm : TypedTest → TypedExpr → Binding TypedArm
case_arm test gives = pure (record { test = test; gives = gives })

abbrev pub null_read : Read TypedExpr
null_read = just (pure node.lone_null)

abbrev pub case_read : List (Read TypedArm) → Option ExprRead → ExprRead
case_read arms other = unseen (two (each_read arms) (or_read null_read (option_map read_of other)) (λ xs y. pure (node.case_expr xs y)))

-- ---- tests

-- NOT before what a test is made of
abbrev pub tested : Bool → TypedTest → Binding TypedTest
tested negative a = pure (tests.negated_where negative a)

abbrev pub negated : Bool → Read TypedTest → Read TypedTest
negated negative a = over a (λ bind. and_then bind (tested negative))

abbrev pub joined_by : Junction → Read TypedTest → List (Read TypedTest) → Read TypedTest
joined_by junction first rest = record {
  inside = all_onto first.inside (map inside_of rest);
  bind = and_then first.bind (λ x. and_then (each_read rest).bind (λ xs. pure (tests.all_joined junction x xs)));
}

module _ (definitions : List Definition) (vars : List Variable) where
  abbrev pub expr_step : Expr-F ExprRead ItemRead JoinRead (Read TypedTest) (Read TypedArm) TermRead FromRead OrderRead (Outcome Selected) TermRead → ExprRead
  expr_step (Expr-F.Number n) = record { shape = shape.Number n; called = None; read = over (just (pure (literal n))) settle }
  expr_step (Expr-F.Text units) = operand (pure (node.text_expr units))
  expr_step Expr-F.Null = record { shape = shape.Null; called = None; read = over (just (pure node.lone_null)) settle }
  expr_step (Expr-F.Variable name) = operand (variable vars name)
  expr_step (Expr-F.System word) = operand (system_expr word)
  expr_step (Expr-F.Column table called) = record { shape = name_shape table; called = Some called; read = over (just (column table called)) settle }
  expr_step (Expr-F.Expr::Parens a) = record a { shape = shape.Node }
  expr_step (Expr-F.Query select) = unseen (inner (scalar select))
  expr_step (Expr-F.Case arms otherwise) = case_read arms otherwise
  expr_step (Expr-F.Cast a kind) = node_of a (λ x. pure (node.cast_expr kind x))
  expr_step (Expr-F.Expr::IsNull a b) = node_of_two a b (λ x y. pure (node.is_null_expr x y))
  expr_step (Expr-F.NullIf a b) = node_of_two a b (λ x y. pure (node.null_if_expr x y))
  expr_step (Expr-F.Coalesce items) = unseen (over (each_read (map read_of items)) (λ bind. and_then bind (λ xs. pure (node.coalesce_expr xs))))
  expr_step (Expr-F.Length a) = node_of a (λ x. pure (node.length_expr x))
  expr_step Expr-F.CountRows = unseen (summed (just count_rows))
  expr_step (Expr-F.Aggregate agg distinct a) = unseen (summed (over a.read (aggregate agg distinct)))
  expr_step (Expr-F.Signed signs a) = unseen (over a.read (signed_from signs a.shape))
  expr_step (Expr-F.Product first factors) = chain first factors
  expr_step (Expr-F.Sum first terms) = chain first terms

  abbrev pub arm_step : Arm-F ExprRead ItemRead JoinRead (Read TypedTest) (Read TypedArm) TermRead FromRead OrderRead (Outcome Selected) TermRead → Read TypedArm
  arm_step arm = two arm.test arm.gives.read case_arm

  abbrev pub factor_step : Factor-F ExprRead ItemRead JoinRead (Read TypedTest) (Read TypedArm) TermRead FromRead OrderRead (Outcome Selected) TermRead → TermRead
  factor_step factor = record { op = multiply_op factor.sign; read = factor.operand.read }

  abbrev pub term_step : Term-F ExprRead ItemRead JoinRead (Read TypedTest) (Read TypedArm) TermRead FromRead OrderRead (Outcome Selected) TermRead → TermRead
  term_step term = record { op = add_op term.sign; read = term.operand.read }

  abbrev pub test_step : Test-F ExprRead ItemRead JoinRead (Read TypedTest) (Read TypedArm) TermRead FromRead OrderRead (Outcome Selected) TermRead → Read TypedTest
  test_step (Test-F.Test::Parens a) = a
  test_step (Test-F.Exists select) = inner (exists select)
  test_step (Test-F.Compare a sign b) = two a.read b.read (λ x y. pure (tests.compare_test (compare_op sign) x y))
  test_step (Test-F.Test::IsNull a negative) = over a.read (λ bind. and_then bind (λ x. tested negative (tests.is_null_test x)))
  test_step (Test-F.Between a negative low high) = three a.read low.read high.read (λ x y z. tested negative (tests.between_test x y z))
  test_step (Test-F.InQuery a negative select) = negated negative (record { inside = both a.read.inside an_inner_query; bind = and_then a.read.bind (in_query select) })
  test_step (Test-F.InList a negative items) = two a.read (each_read (map read_of items)) (λ x xs. tested negative (tests.in_list_test x xs))
  test_step (Test-F.Not count a) = negated (is_odd count) a
  test_step (Test-F.And first rest) = joined_by by.And first rest
  test_step (Test-F.Or first rest) = joined_by by.Or first rest

  abbrev pub item_step : Item-F ExprRead ItemRead JoinRead (Read TypedTest) (Read TypedArm) TermRead FromRead OrderRead (Outcome Selected) TermRead → ItemRead
  item_step Item-F.All = star
  item_step (Item-F.AllOf name) = star_of name
  item_step (Item-F.Assign name a) = assigned name a
  item_step (Item-F.Value a alias) = valued a alias

  abbrev pub join_step : Join-F ExprRead ItemRead JoinRead (Read TypedTest) (Read TypedArm) TermRead FromRead OrderRead (Outcome Selected) TermRead → JoinRead
  join_step (Join-F.Comma of) = record { of = of; kind = joined.Cross; on = None }
  join_step (Join-F.Inner of on) = record { of = of; kind = joined.Inner; on = Some on }
  join_step (Join-F.Left of on) = record { of = of; kind = joined.Left; on = Some on }
  join_step (Join-F.Cross of) = record { of = of; kind = joined.Cross; on = None }

  abbrev pub from_step : FromClause-F ExprRead ItemRead JoinRead (Read TypedTest) (Read TypedArm) TermRead FromRead OrderRead (Outcome Selected) TermRead → FromRead
  from_step from = record { first = from.first; joins = from.joins }

  abbrev pub order_step : OrderItem-F ExprRead ItemRead JoinRead (Read TypedTest) (Read TypedArm) TermRead FromRead OrderRead (Outcome Selected) TermRead → OrderRead
  order_step order = record { expr = order.expr; descending = order.descending }

  abbrev pub select_step : Select-F ExprRead ItemRead JoinRead (Read TypedTest) (Read TypedArm) TermRead FromRead OrderRead (Outcome Selected) TermRead → Outcome Selected
  select_step select = select_of definitions vars (record {
    distinct = select.distinct;
    top = select.top;
    items = select.items;
    from = select.from;
    filter = select.filter;
    groups = select.groups;
    having = select.having;
    order = select.order;
  })

  -- what an expression is bound to
  abbrev pub expr_of : Expr → ExprRead
  expr_of = fold-Expr ExprRead ItemRead JoinRead (Read TypedTest) (Read TypedArm) TermRead FromRead OrderRead (Outcome Selected) TermRead expr_step item_step join_step test_step arm_step factor_step from_step order_step select_step term_step

  -- the same of the other trees
  abbrev pub arm_of : Arm → Read TypedArm
  arm_of = fold-Arm ExprRead ItemRead JoinRead (Read TypedTest) (Read TypedArm) TermRead FromRead OrderRead (Outcome Selected) TermRead expr_step item_step join_step test_step arm_step factor_step from_step order_step select_step term_step

  -- what a test is bound to
  abbrev pub test_of : Test → Read TypedTest
  test_of = fold-Test ExprRead ItemRead JoinRead (Read TypedTest) (Read TypedArm) TermRead FromRead OrderRead (Outcome Selected) TermRead expr_step item_step join_step test_step arm_step factor_step from_step order_step select_step term_step

  abbrev pub item_of : Item → ItemRead
  item_of = fold-Item ExprRead ItemRead JoinRead (Read TypedTest) (Read TypedArm) TermRead FromRead OrderRead (Outcome Selected) TermRead expr_step item_step join_step test_step arm_step factor_step from_step order_step select_step term_step

  abbrev pub from_of : FromClause → FromRead
  from_of = fold-FromClause ExprRead ItemRead JoinRead (Read TypedTest) (Read TypedArm) TermRead FromRead OrderRead (Outcome Selected) TermRead expr_step item_step join_step test_step arm_step factor_step from_step order_step select_step term_step

  abbrev pub order_of : OrderItem → OrderRead
  order_of = fold-OrderItem ExprRead ItemRead JoinRead (Read TypedTest) (Read TypedArm) TermRead FromRead OrderRead (Outcome Selected) TermRead expr_step item_step join_step test_step arm_step factor_step from_step order_step select_step term_step

  -- what a select is bound to
  abbrev pub query_of : Select → Outcome Selected
  query_of = fold-Select ExprRead ItemRead JoinRead (Read TypedTest) (Read TypedArm) TermRead FromRead OrderRead (Outcome Selected) TermRead expr_step item_step join_step test_step arm_step factor_step from_step order_step select_step term_step

  abbrev pub factor_of : Factor → TermRead
  factor_of = fold-Factor ExprRead ItemRead JoinRead (Read TypedTest) (Read TypedArm) TermRead FromRead OrderRead (Outcome Selected) TermRead expr_step item_step join_step test_step arm_step factor_step from_step order_step select_step term_step

  abbrev pub term_of : Term → TermRead
  term_of = fold-Term ExprRead ItemRead JoinRead (Read TypedTest) (Read TypedArm) TermRead FromRead OrderRead (Outcome Selected) TermRead expr_step item_step join_step test_step arm_step factor_step from_step order_step select_step term_step

  -- the parts of a select
  abbrev pub select_read : Select → SelectRead
  select_read select = record {
    distinct = (out-Select select).distinct;
    top = (out-Select select).top;
    items = map item_of (out-Select select).items;
    from = option_map from_of (out-Select select).from;
    filter = option_map test_of (out-Select select).filter;
    groups = map expr_of (out-Select select).groups;
    having = option_map test_of (out-Select select).having;
    order = map order_of (out-Select select).order;
  }

  abbrev pub join_of : Join → JoinRead
  join_of = fold-Join ExprRead ItemRead JoinRead (Read TypedTest) (Read TypedArm) TermRead FromRead OrderRead (Outcome Selected) TermRead expr_step item_step join_step test_step arm_step factor_step from_step order_step select_step term_step
