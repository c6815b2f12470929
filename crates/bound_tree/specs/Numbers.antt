-- Transact-SQL reference, "Arithmetic operators": numbers are computed exactly, and a result outside its
-- type is an error; the code computes in 64 bits. Of NULL comes NULL.
use Rattle.std.specs.Prelude.{ℤ, pos, ◌+ℤ◌, ◌-ℤ◌, ◌*ℤ◌, neg_ℤ, int_div, int_rem, if◌then◌else◌, Option, Some, None, Ok, Err}
use Rattle.std.specs.Ordering.{int_eq}
use Rattle.value_types.specs.declared.sql_type.SqlType.{SqlType}
use Rattle.value_types.specs.declared.value.Value.{Value}
use Rattle.value_types.specs.declared.value.Value.TheVariants.{Null, Whole, Bit, Text}
use Rattle.value_types.specs.Types.{is_in_range}
use Rattle.bound_tree.specs.declared.expr.InfixOp.{InfixOp}
use Rattle.bound_tree.specs.declared.expr.InfixOp.TheVariants.{Add, Subtract, Multiply, Divide, Remainder}
use Rattle.bound_tree.specs.Outcomes.{Outcome, after, overflow, zero_divisor}

-- the number that a value is, where it is one
abbrev pub number_of : Value → Option ℤ
number_of Null = None
number_of (Whole number) = Some number
number_of (Bit bit) = None
number_of (Text units) = None

abbrev pub value_of : Option ℤ → Value
value_of None = Null
value_of (Some number) = Whole number

-- a result of this type
abbrev pub fitted : SqlType → ℤ → Outcome (Option ℤ)
fitted kind number = if is_in_range kind number then Ok (Some number) else Err overflow

-- `/` truncates toward zero
abbrev pub quotient : SqlType → ℤ → ℤ → Outcome (Option ℤ)
quotient kind a b = if int_eq b (pos 0) then Err zero_divisor else fitted kind (int_div a b)

-- `%` has the dividend's sign
abbrev pub remainder : SqlType → ℤ → ℤ → Outcome (Option ℤ)
remainder kind a b = if int_eq b (pos 0) then Err zero_divisor else fitted kind (int_rem a b)

abbrev pub computed : InfixOp → SqlType → ℤ → ℤ → Outcome (Option ℤ)
computed Add kind a b = fitted kind (a +ℤ b)
computed Subtract kind a b = fitted kind (a -ℤ b)
computed Multiply kind a b = fitted kind (a *ℤ b)
computed Divide kind a b = quotient kind a b
computed Remainder kind a b = remainder kind a b

abbrev pub arithmetic : InfixOp → SqlType → Option ℤ → Option ℤ → Outcome (Option ℤ)
arithmetic op kind None b = Ok None
arithmetic op kind (Some a) None = Ok None
arithmetic op kind (Some a) (Some b) = computed op kind a b

abbrev pub negation : SqlType → Option ℤ → Outcome (Option ℤ)
negation kind None = Ok None
negation kind (Some number) = fitted kind (neg_ℤ number)

-- ---- of what came of the operands

abbrev pub number_outcome : Outcome Value → Outcome (Option ℤ)
number_outcome a = after a (λ x. Ok (number_of x))

abbrev pub value_outcome : Outcome (Option ℤ) → Outcome Value
value_outcome a = after a (λ number. Ok (value_of number))

abbrev pub arithmetic_of : InfixOp → SqlType → Outcome (Option ℤ) → Outcome (Option ℤ) → Outcome (Option ℤ)
arithmetic_of op kind a b = after a (λ x. after b (λ y. arithmetic op kind x y))

abbrev pub negation_of : SqlType → Outcome (Option ℤ) → Outcome (Option ℤ)
negation_of kind a = after a (negation kind)
