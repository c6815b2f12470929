-- Transact-SQL reference, "Aggregate functions": what an aggregate makes of the values of a class. All but
-- COUNT(*) skip NULLs; of no value COUNT is 0 and the others are NULL. Totals are exact; the code adds in
-- 128 bits.
use Rattle.std.specs.Prelude.{◌≡◌, ℤ, pos, ◌+ℤ◌, int_div, Bool, true, false, not, nat_eq, if◌then◌else◌, List, length, fold, Result, Ok, Err}
use Rattle.std.specs.List.{filter, filter_map, list_all}
use Rattle.std.specs.Ordering.{is_lt}
use Rattle.value_types.specs.declared.sql_type.SqlType.{SqlType}
use Rattle.value_types.specs.declared.value.Value.{Value}
use Rattle.value_types.specs.declared.value.Value.TheVariants.{Null, Whole}
use Rattle.value_types.specs.Order.{value_order}
use Rattle.bound_tree.specs.declared.query.SumKind.{SumKind}
use Rattle.bound_tree.specs.declared.query.SumKind.TheVariants.{CountRows, Count, Sum, Avg, Min, Max}
use Rattle.bound_tree.specs.Meaning.{is_null}
use Rattle.bound_tree.specs.Numbers.{fitted, number_of, value_outcome}
use Rattle.bound_tree.specs.Outcomes.{Outcome, after, overflow}
use Rattle.bound_tree.specs.Setting.{value_at}
use Rattle.group_rows.specs.Ordered.{directed}
use Rattle.group_rows.specs.declared.fault.GroupFault.{GroupFault}
use Rattle.group_rows.specs.declared.fault.GroupFault.TheVariants.{Overflow, Memory}

-- the values that aren't NULL
abbrev pub known : List Value → List Value
known values = filter (λ value. not (is_null value)) values

-- the numbers among the values
abbrev pub numbers_of : List Value → List ℤ
numbers_of values = filter_map number_of values

-- their exact sum
abbrev pub sum_of : List ℤ → ℤ
sum_of numbers = fold ◌+ℤ◌ (pos 0) numbers

-- a number as a value of the type
abbrev pub whole : SqlType → ℤ → Outcome Value
whole to number = value_outcome (fitted to number)

-- the sum as a value of the type
abbrev pub summed : SqlType → List ℤ → Outcome Value
summed to numbers = if nat_eq (length numbers) 0 then Ok Null else whole to (sum_of numbers)

-- the sum, which has to be of the type, divided by how many they are, truncated toward zero
abbrev pub averaged : SqlType → List ℤ → Outcome Value
averaged to numbers =
    if nat_eq (length numbers) 0 then Ok Null
    else after (whole to (sum_of numbers)) (λ total. Ok (Whole (int_div (sum_of numbers) (pos (length numbers)))))

-- one value comes before another, up or down
abbrev pub comes_before : Bool → Value → Value → Bool
comes_before down a b = is_lt (directed down (value_order a b))

-- the first of the values before which none comes
abbrev pub first_of : Bool → List Value → Value
first_of down values = value_at (filter (λ value. list_all (λ other. not (comes_before down other value)) values) values) 0

-- what an aggregate makes of the values, as a value of the type
abbrev pub total : SumKind → SqlType → List Value → Outcome Value
total CountRows to values = whole to (pos (length values))
total Count to values = whole to (pos (length (known values)))
total Sum to values = summed to (numbers_of values)
total Avg to values = averaged to (numbers_of values)
total Min to values = Ok (first_of false (known values))
total Max to values = Ok (first_of true (known values))

-- the answer is this outcome, if memory is not wanting
abbrev pub Gives : {A : Type 0} → Result A GroupFault → Outcome A → Type 0
Gives (Ok x) outcome = outcome ≡ Ok x
Gives (Err Overflow) outcome = outcome ≡ Err overflow
Gives (Err Memory) outcome = Unit {0}
