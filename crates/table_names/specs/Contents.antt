-- Own: the tables that a tree names, in the order of the text, those of inner queries where they stand.
use Rattle.std.specs.Prelude.{ℕ, Bool, if◌then◌else◌, List, [], ◌∷◌, ◌++◌, Option, Some, None}
use Rattle.std.specs.List.{list_any}
use Rattle.value_types.specs.Units.{same_units}
use Rattle.tsql_tree.specs.declared.query.Expr.{Expr}
use Rattle.tsql_tree.specs.declared.query.Arm.{Arm}
use Rattle.tsql_tree.specs.declared.query.Factor.{Factor}
use Rattle.tsql_tree.specs.declared.query.Term.{Term}
use Rattle.tsql_tree.specs.declared.query.Test.{Test}
use Rattle.tsql_tree.specs.declared.query.Item.{Item}
use Rattle.tsql_tree.specs.declared.query.Join.{Join}
use Rattle.tsql_tree.specs.declared.query.FromClause.{FromClause}
use Rattle.tsql_tree.specs.declared.query.OrderItem.{OrderItem}
use Rattle.tsql_tree.specs.declared.query.Select.{Select}
use Rattle.tsql_tree.specs.declared.query.TableRef.{TableRef}
use Rattle.tsql_tree.specs.declared.query.Expr.TheOpen.{Expr-F, Item-F, Join-F, Test-F, Arm-F, Factor-F, FromClause-F, OrderItem-F, Select-F, Term-F}
use Rattle.tsql_tree.specs.declared.query.Expr.TheFolds.{fold-Expr, fold-Arm, fold-Factor, fold-Term, fold-Test, fold-Item, fold-Join, fold-FromClause, fold-OrderItem, fold-Select}

abbrev pub Names : Type 0
Names = List (List ℕ)

abbrev pub all_of : List Names → Names
all_of [] = []
all_of (a ∷ rest) = a ++ all_of rest

abbrev pub maybe : Option Names → Names
maybe None = []
maybe (Some a) = a

abbrev pub table : TableRef → Names
table of = of.name ∷ []

abbrev pub expr_step : Expr-F Names Names Names Names Names Names Names Names Names Names → Names
expr_step (Expr-F.Number number) = []
expr_step (Expr-F.Text units) = []
expr_step Expr-F.Null = []
expr_step (Expr-F.Variable name) = []
expr_step (Expr-F.System word) = []
expr_step (Expr-F.Column qualifier name) = []
expr_step (Expr-F.Expr::Parens a) = a
expr_step (Expr-F.Query select) = select
expr_step (Expr-F.Case arms other) = all_of arms ++ maybe other
expr_step (Expr-F.Cast a kind) = a
expr_step (Expr-F.Expr::IsNull a b) = a ++ b
expr_step (Expr-F.NullIf a b) = a ++ b
expr_step (Expr-F.Coalesce items) = all_of items
expr_step (Expr-F.Length a) = a
expr_step Expr-F.CountRows = []
expr_step (Expr-F.Aggregate of distinct a) = a
expr_step (Expr-F.Signed signs a) = a
expr_step (Expr-F.Product first factors) = first ++ all_of factors
expr_step (Expr-F.Sum first terms) = first ++ all_of terms

abbrev pub item_step : Item-F Names Names Names Names Names Names Names Names Names Names → Names
item_step Item-F.All = []
item_step (Item-F.AllOf name) = []
item_step (Item-F.Assign name a) = a
item_step (Item-F.Value a alias) = a

abbrev pub join_step : Join-F Names Names Names Names Names Names Names Names Names Names → Names
join_step (Join-F.Comma of) = table of
join_step (Join-F.Inner of on) = table of ++ on
join_step (Join-F.Left of on) = table of ++ on
join_step (Join-F.Cross of) = table of

abbrev pub test_step : Test-F Names Names Names Names Names Names Names Names Names Names → Names
test_step (Test-F.Test::Parens a) = a
test_step (Test-F.Exists select) = select
test_step (Test-F.Compare a sign b) = a ++ b
test_step (Test-F.Test::IsNull a negated) = a
test_step (Test-F.Between a negated low high) = a ++ low ++ high
test_step (Test-F.InQuery a negated select) = a ++ select
test_step (Test-F.InList a negated items) = a ++ all_of items
test_step (Test-F.Not count a) = a
test_step (Test-F.And first rest) = first ++ all_of rest
test_step (Test-F.Or first rest) = first ++ all_of rest

abbrev pub arm_step : Arm-F Names Names Names Names Names Names Names Names Names Names → Names
arm_step arm = arm.test ++ arm.gives

abbrev pub factor_step : Factor-F Names Names Names Names Names Names Names Names Names Names → Names
factor_step factor = factor.operand

abbrev pub from_step : FromClause-F Names Names Names Names Names Names Names Names Names Names → Names
from_step from = table from.first ++ all_of from.joins

abbrev pub order_step : OrderItem-F Names Names Names Names Names Names Names Names Names Names → Names
order_step order = order.expr

abbrev pub select_step : Select-F Names Names Names Names Names Names Names Names Names Names → Names
select_step select = all_of select.items ++ maybe select.from ++ maybe select.filter ++ all_of select.groups
    ++ maybe select.having ++ all_of select.order

abbrev pub term_step : Term-F Names Names Names Names Names Names Names Names Names Names → Names
term_step term = term.operand

abbrev pub in_expr : Expr → Names
in_expr = fold-Expr Names Names Names Names Names Names Names Names Names Names expr_step item_step join_step test_step arm_step factor_step from_step order_step select_step term_step

abbrev pub in_test : Test → Names
in_test = fold-Test Names Names Names Names Names Names Names Names Names Names expr_step item_step join_step test_step arm_step factor_step from_step order_step select_step term_step

abbrev pub in_select : Select → Names
in_select = fold-Select Names Names Names Names Names Names Names Names Names Names expr_step item_step join_step test_step arm_step factor_step from_step order_step select_step term_step

-- the same of the other trees
abbrev pub in_arm : Arm → Names
in_arm = fold-Arm Names Names Names Names Names Names Names Names Names Names expr_step item_step join_step test_step arm_step factor_step from_step order_step select_step term_step

abbrev pub in_factor : Factor → Names
in_factor = fold-Factor Names Names Names Names Names Names Names Names Names Names expr_step item_step join_step test_step arm_step factor_step from_step order_step select_step term_step

abbrev pub in_term : Term → Names
in_term = fold-Term Names Names Names Names Names Names Names Names Names Names expr_step item_step join_step test_step arm_step factor_step from_step order_step select_step term_step

abbrev pub in_item : Item → Names
in_item = fold-Item Names Names Names Names Names Names Names Names Names Names expr_step item_step join_step test_step arm_step factor_step from_step order_step select_step term_step

abbrev pub in_join : Join → Names
in_join = fold-Join Names Names Names Names Names Names Names Names Names Names expr_step item_step join_step test_step arm_step factor_step from_step order_step select_step term_step

abbrev pub in_from : FromClause → Names
in_from = fold-FromClause Names Names Names Names Names Names Names Names Names Names expr_step item_step join_step test_step arm_step factor_step from_step order_step select_step term_step

abbrev pub in_order : OrderItem → Names
in_order = fold-OrderItem Names Names Names Names Names Names Names Names Names Names expr_step item_step join_step test_step arm_step factor_step from_step order_step select_step term_step

-- ---- names, each once

abbrev pub is_among : List ℕ → List (List ℕ) → Bool
is_among name names = list_any (same_units name) names

-- the names behind those that are there, each where it first came
abbrev pub distinct_onto : List (List ℕ) → List (List ℕ) → List (List ℕ)
distinct_onto done [] = done
distinct_onto done (name ∷ rest) = distinct_onto (if is_among name done then done else done ++ name ∷ []) rest
