-- Own: which trees leave the row that they stand over: they name a variable, or hold an inner query. The CHECK of a table that is bound
-- does neither.
use Rattle.std.specs.Prelude.{Bool, true, false, ◌||◌, List, [], ◌∷◌, map, Option, Some, None}
use Rattle.tsql_tree.specs.declared.definition.CheckTree.{CheckTree}
use Rattle.tsql_tree.specs.declared.definition.TableTree.{TableTree}
use Rattle.tsql_tree.specs.declared.query.Expr.{Expr}
use Rattle.tsql_tree.specs.declared.query.Arm.{Arm}
use Rattle.tsql_tree.specs.declared.query.Factor.{Factor}
use Rattle.tsql_tree.specs.declared.query.Term.{Term}
use Rattle.tsql_tree.specs.declared.query.Test.{Test}
use Rattle.tsql_tree.specs.declared.query.Expr.TheOpen.{Expr-F, Item-F, Join-F, Test-F, Arm-F, Factor-F, FromClause-F, OrderItem-F, Select-F, Term-F}
use Rattle.tsql_tree.specs.declared.query.Expr.TheFolds.{fold-Expr, fold-Arm, fold-Factor, fold-Term, fold-Test}

-- one of them does
abbrev pub some_of : List Bool → Bool
some_of [] = false
some_of (one ∷ more) = one || some_of more

abbrev pub maybe_so : Option Bool → Bool
maybe_so None = false
maybe_so (Some one) = one

-- ---- of a node, by which of its parts do

abbrev pub expr_step : Expr-F Bool Bool Bool Bool Bool Bool Bool Bool Bool Bool → Bool
expr_step (Expr-F.Number number) = false
expr_step (Expr-F.Text units) = false
expr_step Expr-F.Null = false
expr_step (Expr-F.Variable name) = true
expr_step (Expr-F.System word) = false
expr_step (Expr-F.Column table name) = false
expr_step (Expr-F.Expr::Parens a) = a
expr_step (Expr-F.Query select) = true
expr_step (Expr-F.Case arms other) = some_of arms || maybe_so other
expr_step (Expr-F.Cast a kind) = a
expr_step (Expr-F.Expr::IsNull a b) = a || b
expr_step (Expr-F.NullIf a b) = a || b
expr_step (Expr-F.Coalesce items) = some_of items
expr_step (Expr-F.Length a) = a
expr_step Expr-F.CountRows = false
expr_step (Expr-F.Aggregate of distinct a) = a
expr_step (Expr-F.Signed signs a) = a
expr_step (Expr-F.Product first factors) = first || some_of factors
expr_step (Expr-F.Sum first terms) = first || some_of terms

abbrev pub test_step : Test-F Bool Bool Bool Bool Bool Bool Bool Bool Bool Bool → Bool
test_step (Test-F.Test::Parens a) = a
test_step (Test-F.Exists select) = true
test_step (Test-F.Compare a sign b) = a || b
test_step (Test-F.Test::IsNull a negated) = a
test_step (Test-F.Between a negated low high) = a || (low || high)
test_step (Test-F.InQuery a negated select) = true
test_step (Test-F.InList a negated items) = a || some_of items
test_step (Test-F.Not count a) = a
test_step (Test-F.And first rest) = first || some_of rest
test_step (Test-F.Or first rest) = first || some_of rest

abbrev pub arm_step : Arm-F Bool Bool Bool Bool Bool Bool Bool Bool Bool Bool → Bool
arm_step arm = arm.test || arm.gives

abbrev pub factor_step : Factor-F Bool Bool Bool Bool Bool Bool Bool Bool Bool Bool → Bool
factor_step factor = factor.operand

abbrev pub term_step : Term-F Bool Bool Bool Bool Bool Bool Bool Bool Bool Bool → Bool
term_step term = term.operand

-- what stands in a select alone is not looked at: a select is an inner query
abbrev pub item_step : Item-F Bool Bool Bool Bool Bool Bool Bool Bool Bool Bool → Bool
item_step item = true

abbrev pub join_step : Join-F Bool Bool Bool Bool Bool Bool Bool Bool Bool Bool → Bool
join_step join = true

abbrev pub from_step : FromClause-F Bool Bool Bool Bool Bool Bool Bool Bool Bool Bool → Bool
from_step from = true

abbrev pub order_step : OrderItem-F Bool Bool Bool Bool Bool Bool Bool Bool Bool Bool → Bool
order_step order = true

abbrev pub select_step : Select-F Bool Bool Bool Bool Bool Bool Bool Bool Bool Bool → Bool
select_step select = true

-- ---- trees

abbrev pub expr_leaves : Expr → Bool
expr_leaves = fold-Expr Bool Bool Bool Bool Bool Bool Bool Bool Bool Bool expr_step item_step join_step test_step arm_step factor_step from_step order_step select_step term_step

abbrev pub test_leaves : Test → Bool
test_leaves = fold-Test Bool Bool Bool Bool Bool Bool Bool Bool Bool Bool expr_step item_step join_step test_step arm_step factor_step from_step order_step select_step term_step

abbrev pub arm_leaves : Arm → Bool
arm_leaves = fold-Arm Bool Bool Bool Bool Bool Bool Bool Bool Bool Bool expr_step item_step join_step test_step arm_step factor_step from_step order_step select_step term_step

abbrev pub factor_leaves : Factor → Bool
factor_leaves = fold-Factor Bool Bool Bool Bool Bool Bool Bool Bool Bool Bool expr_step item_step join_step test_step arm_step factor_step from_step order_step select_step term_step

abbrev pub term_leaves : Term → Bool
term_leaves = fold-Term Bool Bool Bool Bool Bool Bool Bool Bool Bool Bool expr_step item_step join_step test_step arm_step factor_step from_step order_step select_step term_step

-- one of a table's CHECKs does
abbrev pub table_leaves : TableTree → Bool
table_leaves table = some_of (map (λ (check : CheckTree). test_leaves check.test) table.checks)
