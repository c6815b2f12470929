-- Own: the range of keys on which a write's target is fetched, or a reference that is no right side of a LEFT JOIN. Of its key tests,
-- in the order of the text, each column of the primary key takes the first by =, up to the first column that has none; of that one
-- the first test by > or >= gives the start, and the first by < or <= the stop. A row that meets all key tests stands within the range.
use Rattle.std.specs.Prelude.{ℕ, ◌&&◌, nat_eq, Bool, true, false, List, [], ◌∷◌, ◌++◌, Option, None, Some}
use Rattle.std.specs.List.{find}
use Rattle.value_types.specs.declared.table_name.TableName.{TableName}
use Rattle.value_types.specs.declared.value.Value.{Value}
use Rattle.bound_tree.specs.declared.expr.BoundTest.{BoundTest}
use Rattle.bound_tree.specs.declared.expr.CompareOp.{CompareOp}
use Rattle.bound_tree.specs.declared.expr.CompareOp.TheVariants.{Equal, NotEqual, Less, LessEqual, Greater, GreaterEqual}
use Rattle.step_model.specs.declared.range.KeyRange.{KeyRange}
use Rattle.step_model.specs.declared.range.Start.{Start}
use Rattle.step_model.specs.declared.range.Start.TheVariants.{First, At, Past}
use Rattle.step_model.specs.declared.range.Stop.{Stop}
use Rattle.step_model.specs.declared.range.Stop.TheVariants.{Last, Within}
use Rattle.query_eval.specs.declared.key_tests.ColumnTest.{ColumnTest}
use Rattle.query_eval.specs.KeyTests.{key_tests, where_tests}

-- ---- the tests of one column

abbrev pub is_equal : CompareOp → Bool
is_equal Equal = true
is_equal NotEqual = false
is_equal Less = false
is_equal LessEqual = false
is_equal Greater = false
is_equal GreaterEqual = false

-- what lies below a value fails it
abbrev pub is_lower : CompareOp → Bool
is_lower Equal = false
is_lower NotEqual = false
is_lower Less = false
is_lower LessEqual = false
is_lower Greater = true
is_lower GreaterEqual = true

-- what lies above a value fails it
abbrev pub is_upper : CompareOp → Bool
is_upper Equal = false
is_upper NotEqual = false
is_upper Less = true
is_upper LessEqual = true
is_upper Greater = false
is_upper GreaterEqual = false

-- the first test of a column by such an operator
abbrev pub first_by : (CompareOp → Bool) → ℕ → List ColumnTest → Option ColumnTest
first_by picks column tests = find (λ test. nat_eq test.column column && picks test.op) tests

-- ---- where a range starts and stops

pub record Bounds : Type 0 where
  pub start : Start
  pub stop : Stop

-- at a key's first values; without one everywhere
abbrev pub start_at : List Value → Start
start_at [] = First
start_at (x ∷ values) = At (x ∷ values)

abbrev pub stop_within : List Value → Stop
stop_within [] = Last
stop_within (x ∷ values) = Within (x ∷ values)

-- by the operator of a test that has a lower end; the four others do not come
abbrev pub start_by : CompareOp → List Value → Start
start_by Greater values = Past values
start_by GreaterEqual values = At values
start_by Equal values = At values
start_by NotEqual values = First
start_by Less values = First
start_by LessEqual values = First

-- behind these values, of the next column
abbrev pub start_of : List Value → Option ColumnTest → Start
start_of values None = start_at values
start_of values (Some test) = start_by test.op (values ++ test.value ∷ [])

abbrev pub stop_of : List Value → Option ColumnTest → Stop
stop_of values None = stop_within values
stop_of values (Some test) = Within (values ++ test.value ∷ [])

-- with this test of the next column by =, or without one
abbrev pub bounds_by : Bounds → (List Value → Bounds) → List Value → Option ColumnTest → Bounds
bounds_by ends next values None = ends
bounds_by ends next values (Some test) = next (values ++ test.value ∷ [])

module _ (tests : List ColumnTest) where
  -- the next column is at this place, and has no test by =
  abbrev pub ends_at : List Value → ℕ → Bounds
  ends_at values place = record {
    start = start_of values (first_by is_lower place tests);
    stop = stop_of values (first_by is_upper place tests);
  }

  -- behind these values, of the columns that are left of the key
  abbrev pub bounds_from : List Value → List ℕ → Bounds
  bounds_from values [] = record { start = start_at values; stop = stop_within values }
  bounds_from values (place ∷ places) = bounds_by (ends_at values place) (λ more. bounds_from more places) values (first_by is_equal place tests)

-- of a key with columns at these places, by its tests
abbrev pub bounds_of : List ℕ → List ColumnTest → Bounds
bounds_of key tests = bounds_from tests [] key

abbrev pub range_with : TableName → Bounds → KeyRange
range_with table bounds = record { table = table; start = bounds.start; stop = bounds.stop }

-- all of a table
abbrev pub whole_table : TableName → KeyRange
whole_table table = record { table = table; start = First; stop = Last }

-- the range of a table whose key has these columns and whose first column has this place among all, by the tests of WHERE
abbrev pub range_by : TableName → List ℕ → ℕ → List ColumnTest → KeyRange
range_by table key first tests = range_with table (bounds_of key (key_tests key first tests))

abbrev pub RangeOf : Option BoundTest → ℕ → TableName → List ℕ → List Value → KeyRange
RangeOf filter first table key vars = range_by table key first (where_tests vars filter)
