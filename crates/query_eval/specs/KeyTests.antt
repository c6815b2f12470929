-- Own: the conjuncts of WHERE that compare a column, by =, <, <=, > or >=, with a constant or a
-- variable, both whole numbers, both texts or both bits. NULL is a constant, and no row meets a
-- test by it. BETWEEN is two such conjuncts, and IN of one item is one. A conversion that changes
-- no value leaves a column, a constant or a variable what it is. Those of a column of a reference's
-- primary key are its key tests: rows that fail one are not read.
use Rattle.std.specs.Prelude.{ℕ, ◌+◌, ◌-◌, Bool, true, false, ◌&&◌, ◌||◌, nat_eq, nat_le, unwrap_or, if◌then◌else◌, List, [], ◌∷◌, ◌++◌, map, Option, None, Some}
use Rattle.std.specs.List.{filter, list_all, list_any}
use Rattle.value_types.specs.declared.sql_type.SqlType.{SqlType}
use Rattle.value_types.specs.declared.value.Value.{Value}
use Rattle.value_types.specs.declared.value.Value.TheVariants.{Null}
use Rattle.bound_tree.specs.declared.expr.CompareOp.{CompareOp}
use Rattle.bound_tree.specs.declared.expr.CompareOp.TheVariants.{Equal, NotEqual, Less, LessEqual, Greater, GreaterEqual}
use Rattle.bound_tree.specs.declared.expr.BoundTest.{BoundTest}
use Rattle.bound_tree.specs.declared.expr.BoundSide.{BoundSide}
use Rattle.bound_tree.specs.declared.expr.BoundExpr.TheOpen.{BoundExpr-F, BoundTest-F, BoundArm-F, BoundSide-F}
use Rattle.bound_tree.specs.declared.expr.BoundExpr.TheFolds.{fold-BoundExpr, fold-BoundTest, fold-BoundSide}
use Rattle.bound_tree.specs.declared.expr.BoundExpr.{BoundExpr}
use Rattle.bound_tree.specs.declared.query.JoinKind.{JoinKind}
use Rattle.bound_tree.specs.declared.query.JoinKind.TheVariants.{Inner, Left, Cross}
use Rattle.bound_tree.specs.Truths.{is_true}
use Rattle.bound_tree.specs.Kinds.{are_alike, rank, text_size}
use Rattle.bound_tree.specs.Setting.{value_at}
use Rattle.bound_tree.specs.Comparisons.{order_of, order_truth}
use Rattle.bound_tree.specs.Typed.{is_whole}
use Rattle.join_rows.specs.Joined.{Row}
use Rattle.query_eval.specs.declared.key_tests.ColumnTest.{ColumnTest}

-- ---- columns compared

-- what a side of a comparison is
pub data TestSide : Type 0 where
  column : ℕ → TestSide
  literal : Value → TestSide
  variable : Value → TestSide
  no_side : TestSide

-- both are types of whole numbers, both of texts or both of bits
abbrev pub is_one_sort : SqlType → SqlType → Bool
is_one_sort a b = is_whole a && is_whole b || are_alike a b

-- each value of the one type is the same value of the other
abbrev pub is_widened : SqlType → SqlType → Bool
is_widened from to =
    is_one_sort from to
    && (nat_le (rank from) (rank to)
    && nat_le (unwrap_or (text_size from) 0) (unwrap_or (text_size to) 0))

-- an operator with its sides exchanged
abbrev pub mirror_of : CompareOp → CompareOp
mirror_of Equal = Equal
mirror_of NotEqual = NotEqual
mirror_of Less = Greater
mirror_of LessEqual = GreaterEqual
mirror_of Greater = Less
mirror_of GreaterEqual = LessEqual

-- all but <>
abbrev pub is_of_key_test : CompareOp → Bool
is_of_key_test Equal = true
is_of_key_test NotEqual = false
is_of_key_test Less = true
is_of_key_test LessEqual = true
is_of_key_test Greater = true
is_of_key_test GreaterEqual = true

abbrev pub one_test : ℕ → CompareOp → Value → List ColumnTest
one_test place op x = record { column = place; op = op; value = x } ∷ []

-- a column beside a constant or a variable; where it stands on the right the sides are exchanged
abbrev pub side_tests : CompareOp → TestSide → TestSide → List ColumnTest
side_tests op (column place) (literal x) = one_test place op x
side_tests op (column place) (variable x) = one_test place op x
side_tests op (literal x) (column place) = one_test place (mirror_of op) x
side_tests op (variable x) (column place) = one_test place (mirror_of op) x
side_tests op a b = []

abbrev pub compare_tests : CompareOp → TestSide → TestSide → List ColumnTest
compare_tests op a b = if is_of_key_test op then side_tests op a b else []

-- the first side of BETWEEN or IN, which is of the first type, is compared as it is in a pair of
-- the other type; a lone NULL is of each type
abbrev pub is_as_it_is : TestSide → SqlType → SqlType → Bool
is_as_it_is (literal Null) kind pair = true
is_as_it_is a kind pair = is_one_sort kind pair

abbrev pub pair_tests : CompareOp → SqlType → TestSide → SqlType × TestSide → List ColumnTest
pair_tests op kind a side = if is_as_it_is a kind side.0 then side_tests op a side.1 else []

-- ---- of WHERE

-- a side of BETWEEN or IN: the type in which the pair is compared, and what it is
abbrev pub PairSide : Type 0
PairSide = SqlType × TestSide

module _ (vars : List Value) where
  abbrev pub expr_step : BoundExpr-F TestSide (List ColumnTest) (Unit {0}) PairSide → TestSide
  expr_step (BoundExpr-F.Constant x) = literal x
  expr_step (BoundExpr-F.Cell place) = column place
  expr_step (BoundExpr-F.Variable place) = variable (value_at vars place)
  expr_step (BoundExpr-F.Convert from to a) = if is_widened from to then a else no_side
  expr_step node = no_side

  abbrev pub test_step : BoundTest-F TestSide (List ColumnTest) (Unit {0}) PairSide → List ColumnTest
  test_step (BoundTest-F.Compare op a b) = compare_tests op a b
  test_step (BoundTest-F.Between kind a low high) =
      pair_tests GreaterEqual kind a low ++ pair_tests LessEqual kind a high
  test_step (BoundTest-F.InList kind a (side ∷ [])) = pair_tests Equal kind a side
  test_step (BoundTest-F.And a b) = a ++ b
  test_step node = []

  abbrev pub arm_step : BoundArm-F TestSide (List ColumnTest) (Unit {0}) PairSide → Unit {0}
  arm_step arm = tt

  abbrev pub pair_step : BoundSide-F TestSide (List ColumnTest) (Unit {0}) PairSide → PairSide
  pair_step side = (side.pair, side.expr)

  abbrev pub side_of : BoundExpr → TestSide
  side_of =
      fold-BoundExpr TestSide (List ColumnTest) (Unit {0}) PairSide expr_step test_step arm_step pair_step

  abbrev pub pair_of : BoundSide → PairSide
  pair_of =
      fold-BoundSide TestSide (List ColumnTest) (Unit {0}) PairSide expr_step test_step arm_step pair_step

  -- the columns that conjuncts of a test compare, in the order of the text
  abbrev pub column_tests : BoundTest → List ColumnTest
  column_tests =
      fold-BoundTest TestSide (List ColumnTest) (Unit {0}) PairSide expr_step test_step arm_step pair_step

  -- of WHERE, where it stands
  abbrev pub where_tests : Option BoundTest → List ColumnTest
  where_tests None = []
  where_tests (Some test) = column_tests test

-- ---- of a reference

-- whether a row meets a test; of NULL it is unknown, which is not enough
abbrev pub meets : Row → ColumnTest → Bool
meets row test = is_true (order_truth test.op (order_of (value_at row test.column) test.value))

-- a test with its column counted among the reference's own, whose first has this place among all
abbrev pub own_test : ℕ → ColumnTest → ColumnTest
own_test first test = record test { column = test.column - first }

-- the columns of its key, and the place of its first column among all
module _ (key : List ℕ) (first : ℕ) where
  abbrev pub is_of_key : ColumnTest → Bool
  is_of_key test = list_any (λ place. nat_eq test.column (first + place)) key

  -- the tests of a column of the key
  abbrev pub key_tests : List ColumnTest → List ColumnTest
  key_tests tests = map (own_test first) (filter is_of_key tests)

  -- the rows of an image that are read; the right side of a LEFT JOIN is read whole
  abbrev pub rows_read : List ColumnTest → JoinKind → List Row → List Row
  rows_read tests Left image = image
  rows_read tests Inner image = filter (λ row. list_all (meets row) (key_tests tests)) image
  rows_read tests Cross image = filter (λ row. list_all (meets row) (key_tests tests)) image
