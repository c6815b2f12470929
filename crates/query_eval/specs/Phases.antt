-- Transact-SQL reference, "SELECT: logical processing order": what comes of the joined rows of a
-- query. Each phase is whole before the next, and the first error stands: WHERE on all rows, the
-- classes, their sums class by class, HAVING, the items, DISTINCT, ORDER BY, TOP. The code may stop
-- a phase early where nothing shows of it.
use Rattle.std.specs.Prelude.{ℕ, Bool, true, false, if◌then◌else◌, List, [], ◌∷◌, ◌++◌, map, take, get_or, replicate, sum_by, Option, None, Some, Ok}
use Rattle.std.specs.List.{items_where_true, zip}
use Rattle.std.specs.Ordering.{eq_by_cmp}
use Rattle.value_types.specs.declared.value.Value.{Value}
use Rattle.value_types.specs.declared.value.Value.TheVariants.{Null}
use Rattle.value_types.specs.Order.{value_order}
use Rattle.bound_tree.specs.declared.expr.BoundExpr.{BoundExpr}
use Rattle.bound_tree.specs.declared.expr.BoundTest.{BoundTest}
use Rattle.bound_tree.specs.declared.query.BoundQuery.TheOpen.{BoundQuery-F}
use Rattle.bound_tree.specs.declared.query.Sum.{Sum}
use Rattle.bound_tree.specs.declared.query.Item.{Item}
use Rattle.bound_tree.specs.declared.query.BoundOrder.{BoundOrder}
use Rattle.bound_tree.specs.declared.query.OrderKey.{OrderKey}
use Rattle.bound_tree.specs.declared.query.OrderKey.TheVariants as order_key
use Rattle.bound_tree.specs.Truths.{is_true}
use Rattle.bound_tree.specs.Outcomes.{Outcome, after}
use Rattle.bound_tree.specs.Setting.{Setting, value_at}
use Rattle.bound_tree.specs.Meaning.{truth, value}
use Rattle.join_rows.specs.Joined.{Row}
use Rattle.group_rows.specs.Equals.{classes, firsts, same_row}
use Rattle.group_rows.specs.Ordered.{ordered}
use Rattle.group_rows.specs.Totals.{total}

infixl 10 ◌>>=◌
abbrev pub ◌>>=◌ : {A B : Type 0} → Outcome A → (A → Outcome B) → Outcome B
a >>= next = after a next

-- what a function gives for each, from the first on
abbrev pub each : {A B : Type 0} → (A → Outcome B) → List A → Outcome (List B)
each f [] = Ok []
each f (x ∷ xs) = do
  y ← f x
  ys ← each f xs
  Ok (y ∷ ys)

abbrev pub same_value : Value → Value → Bool
same_value = eq_by_cmp value_order

-- DISTINCT, of rows beside what the items give for them
abbrev pub distinct_if : Bool → List (Row × Row) → List (Row × Row)
distinct_if distinct pairs = if distinct then firsts (λ a b. same_row a.1 b.1) pairs else pairs

abbrev pub top_of : Option ℕ → List Row → List Row
top_of None rows = rows
top_of (Some count) rows = take count rows

-- in a setting for each row
module _ (setting_at : Row → Setting) where
  -- WHERE and HAVING: the rows of which the test is true
  abbrev pub rows_where : Option BoundTest → List Row → Outcome (List Row)
  rows_where None rows = Ok rows
  rows_where (Some test) rows = do
    truths ← each (λ row. truth (setting_at row) test) rows
    Ok (items_where_true (map is_true truths) rows)

  -- the classes of rows that the expressions of GROUP BY make; without GROUP BY the rows are one
  -- class, also where there is none
  abbrev pub classes_of : List BoundExpr → List Row → Outcome (List (List Row))
  classes_of [] rows = Ok (rows ∷ [])
  classes_of (expr ∷ exprs) rows = do
    keys ← each (λ row. each (value (setting_at row)) (expr ∷ exprs)) rows
    Ok (map (map (λ place. get_or rows place [])) (classes same_row keys))

  -- of what an aggregate is taken: COUNT(*) of a value for each row
  abbrev pub operands_of : Option BoundExpr → List Row → Outcome (List Value)
  operands_of None rows = Ok (map (λ row. Null) rows)
  operands_of (Some expr) rows = each (λ row. value (setting_at row) expr) rows

  abbrev pub sum_value : List Row → Sum → Outcome Value
  sum_value rows sum = do
    values ← operands_of sum.of rows
    total sum.kind sum.to (if sum.distinct then firsts same_value values else values)

  -- a class as a row: its first row, of no row NULLs, and the sums behind it
  abbrev pub class_row : ℕ → List Sum → List Row → Outcome Row
  class_row width sums rows = do
    totals ← each (sum_value rows) sums
    Ok (get_or rows 0 (replicate width Null) ++ totals)

  abbrev pub class_rows : Bool → ℕ → List BoundExpr → List Sum → List Row → Outcome (List Row)
  class_rows false width groups sums rows = Ok rows
  class_rows true width groups sums rows = do
    found ← classes_of groups rows
    each (class_row width sums) found

  -- each row beside what the items give for it; with DISTINCT the first of those for which they give
  -- equal rows
  abbrev pub with_items : Bool → List Item → List Row → Outcome (List (Row × Row))
  with_items distinct items rows = do
    values ← each (λ row. each (λ item. value (setting_at row) item.expr) items) rows
    Ok (distinct_if distinct (zip rows values))

  -- of a row beside its items: an item's value, or that of an expression
  abbrev pub order_value : Row × Row → OrderKey → Outcome Value
  order_value pair (order_key.Item place) = Ok (value_at pair.1 place)
  order_value pair (order_key.Expr expr) = value (setting_at pair.0) expr

  abbrev pub in_order_of : List BoundOrder → List (Row × Row) → Outcome (List Row)
  in_order_of order pairs = do
    keys ← each (λ pair. each (λ by. order_value pair by.key) order) pairs
    Ok (ordered (map (λ pair. pair.1) pairs) keys (map (λ by. by.descending) order))

  -- what comes of the joined rows of a query, phase by phase
  abbrev pub rows_given : {A B : Type 0} → BoundQuery-F A B → List Row → Outcome (List Row)
  rows_given query joined = do
    let width = sum_by (λ ref. ref.width) query.refs
    found ← rows_where query.filter joined
    rows ← class_rows query.grouped width query.groups query.sums found
    kept ← rows_where query.having rows
    pairs ← with_items query.distinct query.items kept
    in_order ← in_order_of query.order pairs
    Ok (top_of query.top in_order)
