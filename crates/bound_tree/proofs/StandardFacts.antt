-- Worked rows of the reference's rules, each on a node of a tree whose parts gave these outcomes, and some
-- on whole trees.
use Rattle.std.proofs.Common.{◌≡◌, Bool, true, false, refl, rules, arith, ℕ, pos, negsuc, Ok, Err, List, [], ◌∷◌}
use Rattle.std.specs.Prelude.{codes}
use Rattle.std.specs.Fmt.{digits}
use Rattle.value_types.specs.declared.sql_type.SqlType.TheVariants.{Bit as BitType, TinyInt, SmallInt, Int, BigInt, NText}
use Rattle.value_types.specs.declared.value.Value.{Value}
use Rattle.value_types.specs.declared.value.Value.TheVariants.{Null, Whole, Text}
use Rattle.convert_rules.specs.Reading.{digits_in}
use Rattle.bound_tree.specs.declared.expr.BoundExpr.{BoundExpr, the_lemmas}
use Rattle.bound_tree.specs.declared.expr.BoundExpr.TheVariants as expr
use Rattle.bound_tree.specs.declared.expr.BoundTest.TheVariants as test
use Rattle.bound_tree.specs.declared.expr.BoundExpr.TheOpen.{BoundExpr-F, BoundTest-F}
use Rattle.bound_tree.specs.declared.expr.InfixOp.TheVariants.{Add, Subtract, Multiply, Divide, Remainder}
use Rattle.bound_tree.specs.declared.expr.CompareOp.TheVariants as by
use Rattle.bound_tree.specs.declared.truth.Truth.{Truth}
use Rattle.bound_tree.specs.declared.truth.Truth.TheVariants as truth
use Rattle.bound_tree.specs.declared.system.SystemValue.TheVariants.{RowCount}
use Rattle.bound_tree.specs.Outcomes.{Outcome}
use Rattle.bound_tree.specs.Setting.{Setting}
use Rattle.bound_tree.specs.Meaning as meaning
use Rattle.bound_tree.specs.Meaning.{ArmOutcome, SideOutcome}
use Rattle.bound_tree.specs.Typed as form
use Rattle.bound_tree.specs.Typed.{ArmFound, Found, unformed, lone_null, typed, SettingTypes, SideFound, system_kinds}

abbrev number : ℕ → Outcome Value
number n = Ok (Whole (pos n))

-- -1 - n
abbrev below_zero : ℕ → Outcome Value
below_zero n = Ok (Whole (negsuc n))

abbrev text : List ℕ → Outcome Value
text units = Ok (Text units)

abbrev null : Outcome Value
null = Ok Null

abbrev fails : ℕ → Outcome Value
fails n = Err (pos n)

-- a row of one cell, no variables, the first values of the session, of which the third is 7, and three inner
-- queries: of no row, of one and of two
abbrev setting : Setting
setting = record {
  row = Whole (pos 5) ∷ [];
  vars = [];
  system = Null ∷ Null ∷ Whole (pos 7) ∷ [];
  inner = [] ∷ ((Whole (pos 3) ∷ []) ∷ []) ∷ ((Whole (pos 3) ∷ []) ∷ (Null ∷ []) ∷ []) ∷ [];
}

abbrev Node : Type 0
Node = BoundExpr-F (Outcome Value) (Outcome Truth) ArmOutcome SideOutcome

abbrev gives : Node → Outcome Value
gives node = meaning.expr_step setting node

abbrev says : BoundTest-F (Outcome Value) (Outcome Truth) ArmOutcome SideOutcome → Outcome Truth
says node = meaning.test_step setting node

-- ---- arithmetic and its errors

-- 2147483647 + 1
sum_outside : gives (BoundExpr-F.Infix Add Int (number 2147483647) (number 1)) ≡ fails 8115
sum_outside = refl

sum_of_big : gives (BoundExpr-F.Infix Add BigInt (number 2147483647) (number 1)) ≡ number 2147483648
sum_of_big = refl

-- -7 / 2 and -7 % 2
quotient_truncated : gives (BoundExpr-F.Infix Divide Int (below_zero 6) (number 2)) ≡ below_zero 2
quotient_truncated = refl

remainder_signed : gives (BoundExpr-F.Infix Remainder Int (below_zero 6) (number 2)) ≡ below_zero 0
remainder_signed = refl

-- 7 % -2
remainder_of_positive : gives (BoundExpr-F.Infix Remainder Int (number 7) (below_zero 1)) ≡ number 1
remainder_of_positive = refl

quotient_by_zero : gives (BoundExpr-F.Infix Divide Int (number 1) (number 0)) ≡ fails 8134
quotient_by_zero = refl

remainder_by_zero : gives (BoundExpr-F.Infix Remainder Int (number 1) (number 0)) ≡ fails 8134
remainder_by_zero = refl

-- the least BIGINT by -1
least_divided : gives (BoundExpr-F.Infix Divide BigInt (below_zero 9223372036854775807) (below_zero 0)) ≡ fails 8115
least_divided = refl

least_remainder : gives (BoundExpr-F.Infix Remainder BigInt (below_zero 9223372036854775807) (below_zero 0)) ≡ number 0
least_remainder = refl

tiny_below_zero : gives (BoundExpr-F.Infix Subtract TinyInt (number 1) (number 2)) ≡ fails 8115
tiny_below_zero = refl

-- of NULL comes NULL, by zero too
null_by_zero : gives (BoundExpr-F.Infix Divide Int null (number 0)) ≡ null
null_by_zero = refl

-- the left error stands, and NULL on the left hides none on the right
left_error : gives (BoundExpr-F.Infix Add Int (fails 8134) (fails 8115)) ≡ fails 8134
left_error = refl

right_error : gives (BoundExpr-F.Infix Add Int null (fails 8115)) ≡ fails 8115
right_error = refl

negative_of_tiny : gives (BoundExpr-F.Negate SmallInt (number 255)) ≡ below_zero 254
negative_of_tiny = refl

negative_of_least : gives (BoundExpr-F.Negate Int (below_zero 2147483647)) ≡ fails 8115
negative_of_least = refl

-- ---- conversions

-- CAST(300 AS TINYINT)
cast_outside : gives (BoundExpr-F.Convert Int TinyInt (number 300)) ≡ fails 220
cast_outside = refl

-- CAST(N' -12 ' AS INT), CAST(N'' AS INT), CAST(N'abc' AS NVARCHAR(2)), CAST(N'x' AS INT)
cast_blanks : gives (BoundExpr-F.Convert (NText 5) Int (text (codes " -12 "))) ≡ below_zero 11
unfolding digits_in
cast_blanks = refl

cast_empty : gives (BoundExpr-F.Convert (NText 1) Int (text [])) ≡ number 0
cast_empty = refl

cast_cut : gives (BoundExpr-F.Convert (NText 3) (NText 2) (text (codes "abc"))) ≡ text (codes "ab")
cast_cut = refl

cast_no_number : gives (BoundExpr-F.Convert (NText 1) Int (text (codes "x"))) ≡ fails 245
unfolding digits_in
cast_no_number = refl

cast_no_big_number : gives (BoundExpr-F.Convert (NText 1) BigInt (text (codes "x"))) ≡ fails 8114
unfolding digits_in
cast_no_big_number = refl

text_outside : gives (BoundExpr-F.Convert (NText 3) TinyInt (text (codes "256"))) ≡ fails 244
unfolding digits_in
text_outside = refl

-- digits are not cut where they are longer than the text
digits_too_long : gives (BoundExpr-F.Convert Int (NText 2) (number 123)) ≡ fails 8115
unfolding digits
digits_too_long = refl

-- ---- texts

texts_joined : gives (BoundExpr-F.Infix Add (NText 3) (text (codes "ab")) (text (codes "c"))) ≡ text (codes "abc")
texts_joined = refl

text_and_null : gives (BoundExpr-F.Infix Add (NText 3) (text (codes "ab")) null) ≡ null
text_and_null = refl

-- LEN(N' a ')
length_without_spaces : gives (BoundExpr-F.Length (text (codes " a "))) ≡ number 2
length_without_spaces = refl

length_of_spaces : gives (BoundExpr-F.Length (text (codes "  "))) ≡ number 0
length_of_spaces = refl

length_of_null : gives (BoundExpr-F.Length null) ≡ null
length_of_null = refl

-- ---- what is not evaluated fails nothing

first_of_two : gives (BoundExpr-F.Coalesce (number 1 ∷ fails 8134 ∷ [])) ≡ number 1
first_of_two = refl

second_of_two : gives (BoundExpr-F.Coalesce (null ∷ fails 8134 ∷ [])) ≡ fails 8134
second_of_two = refl

all_null : gives (BoundExpr-F.Coalesce (null ∷ null ∷ [])) ≡ null
all_null = refl

-- an arm whose test is unknown is not taken
second_arm : gives (BoundExpr-F.Case ((Ok truth.Unknown, fails 8134) ∷ (Ok truth.True, number 2) ∷ (Err (pos 8115), number 3) ∷ []) (fails 8134)) ≡ number 2
second_arm = refl

no_arm : gives (BoundExpr-F.Case ((Ok truth.False, number 1) ∷ []) (number 4)) ≡ number 4
no_arm = refl

failing_arm : gives (BoundExpr-F.Case ((Err (pos 8115), number 1) ∷ (Ok truth.True, number 2) ∷ []) (number 4)) ≡ fails 8115
failing_arm = refl

and_behind_false : says (BoundTest-F.And (Ok truth.False) (Err (pos 8134))) ≡ Ok truth.False
and_behind_false = refl

and_behind_unknown : says (BoundTest-F.And (Ok truth.Unknown) (Err (pos 8134))) ≡ Err (pos 8134)
and_behind_unknown = refl

or_behind_true : says (BoundTest-F.Or (Ok truth.True) (Err (pos 8134))) ≡ Ok truth.True
or_behind_true = refl

or_behind_unknown : says (BoundTest-F.Or (Ok truth.Unknown) (Ok truth.True)) ≡ Ok truth.True
or_behind_unknown = refl

not_unknown : says (BoundTest-F.Not (Ok truth.Unknown)) ≡ Ok truth.Unknown
not_unknown = refl

-- ---- comparisons

-- N'a' = N'a  '
padded : says (BoundTest-F.Compare by.Equal (text (codes "a")) (text (codes "a  "))) ≡ Ok truth.True
padded = refl

with_null : says (BoundTest-F.Compare by.NotEqual (number 1) null) ≡ Ok truth.Unknown
with_null = refl

-- 1 BETWEEN 2 AND 1/0: AND behind False
between_below : says (BoundTest-F.Between Int (number 1) (Int, number 2) (Int, fails 8134)) ≡ Ok truth.False
between_below = refl

between_null : says (BoundTest-F.Between Int (number 1) (Int, null) (Int, number 0)) ≡ Ok truth.False
between_null = refl

between_bounds : says (BoundTest-F.Between Int (number 1) (Int, number 1) (Int, number 1)) ≡ Ok truth.True
between_bounds = refl

-- 1 IN (NULL, 1, 1/0): OR behind True
in_list : says (BoundTest-F.InList Int (number 1) ((Int, null) ∷ (Int, number 1) ∷ (Int, fails 8134) ∷ [])) ≡ Ok truth.True
in_list = refl

-- 2 IN (NULL, 1)
in_list_unknown : says (BoundTest-F.InList Int (number 2) ((Int, null) ∷ (Int, number 1) ∷ [])) ≡ Ok truth.Unknown
in_list_unknown = refl

-- N'x' IN (N'x', 1): each pair in its own type
in_list_by_pairs : says (BoundTest-F.InList (NText 1) (text (codes "x")) ((NText 1, text (codes "x")) ∷ (Int, number 1) ∷ [])) ≡ Ok truth.True
in_list_by_pairs = refl

in_list_no_number : says (BoundTest-F.InList (NText 1) (text (codes "x")) ((Int, number 1) ∷ (NText 1, text (codes "x")) ∷ [])) ≡ Err (pos 245)
unfolding digits_in
in_list_no_number = refl

null_if_equal : gives (BoundExpr-F.NullIf Int (number 1) (Int, number 1)) ≡ null
null_if_equal = refl

null_if_unknown : gives (BoundExpr-F.NullIf Int (number 1) (Int, null)) ≡ number 1
null_if_unknown = refl

-- ---- what is read

of_the_row : gives (BoundExpr-F.Cell 0) ≡ number 5
of_the_row = refl

row_count : gives (BoundExpr-F.System RowCount) ≡ number 7
row_count = refl

scalar_of_none : gives (BoundExpr-F.Scalar 0) ≡ null
scalar_of_none = refl

scalar_of_one : gives (BoundExpr-F.Scalar 1) ≡ number 3
scalar_of_one = refl

scalar_of_two : gives (BoundExpr-F.Scalar 2) ≡ fails 512
scalar_of_two = refl

in_no_rows : says (BoundTest-F.InQuery (NText 1) (text (codes "x")) Int 0) ≡ Ok truth.False
in_no_rows = refl

-- N'3' IN (SELECT ..): the text is read as a number
in_two_rows : says (BoundTest-F.InQuery (NText 1) (text (codes "3")) Int 2) ≡ Ok truth.True
unfolding digits_in
in_two_rows = refl

in_rows_unknown : says (BoundTest-F.InQuery Int (number 4) Int 2) ≡ Ok truth.Unknown
in_rows_unknown = refl

no_row_exists : says (BoundTest-F.Exists 0) ≡ Ok truth.False
no_row_exists = refl

a_row_exists : says (BoundTest-F.Exists 2) ≡ Ok truth.True
a_row_exists = refl

-- ---- types

abbrev types : SettingTypes
types = record { row = NText 5 ∷ BigInt ∷ []; vars = TinyInt ∷ []; system = system_kinds; inner = (Int ∷ []) ∷ (Int ∷ Int ∷ []) ∷ [] }

-- of a CHECK, which names cells alone
abbrev checked : SettingTypes
checked = record types { vars = []; system = []; inner = [] }

abbrev found : BoundExpr-F Found Bool ArmFound SideFound → Found
found node = form.expr_step types node

abbrev formed : BoundTest-F Found Bool ArmFound SideFound → Bool
formed node = form.test_step types node

sum_of_ints : found (BoundExpr-F.Infix Add Int (typed Int) (typed Int)) ≡ typed Int
sum_of_ints = refl

-- not 2147483647 + 1 as a BIGINT
no_sum_of_ints : found (BoundExpr-F.Infix Add BigInt (typed Int) (typed Int)) ≡ unformed
no_sum_of_ints = refl

no_sum_of_two_types : found (BoundExpr-F.Infix Add BigInt (typed Int) (typed BigInt)) ≡ unformed
no_sum_of_two_types = refl

no_sum_of_bits : found (BoundExpr-F.Infix Add BitType (typed BitType) (typed BitType)) ≡ unformed
no_sum_of_bits = refl

sum_with_null : found (BoundExpr-F.Infix Add SmallInt (typed SmallInt) lone_null) ≡ typed SmallInt
sum_with_null = refl

sum_of_nulls : found (BoundExpr-F.Infix Add Int lone_null lone_null) ≡ typed Int
sum_of_nulls = refl

sizes_added : found (BoundExpr-F.Infix Add (NText 7) (typed (NText 5)) (typed (NText 2))) ≡ typed (NText 7)
sizes_added = refl

sizes_limited : found (BoundExpr-F.Infix Add (NText 4000) (typed (NText 4000)) (typed (NText 2))) ≡ typed (NText 4000)
sizes_limited = refl

texts_not_subtracted : found (BoundExpr-F.Infix Subtract (NText 7) (typed (NText 5)) (typed (NText 2))) ≡ unformed
texts_not_subtracted = refl

least_literal : found (BoundExpr-F.Constant (Whole (negsuc 2147483647))) ≡ typed BigInt
least_literal = refl

int_literal : found (BoundExpr-F.Constant (Whole (negsuc 2147483646))) ≡ typed Int
int_literal = refl

empty_literal : found (BoundExpr-F.Constant (Text [])) ≡ typed (NText 1)
empty_literal = refl

negative_tiny : found (BoundExpr-F.Negate SmallInt (typed TinyInt)) ≡ typed SmallInt
negative_tiny = refl

longest_of_two : found (BoundExpr-F.Coalesce (typed (NText 2) ∷ lone_null ∷ typed (NText 3) ∷ [])) ≡ typed (NText 3)
longest_of_two = refl

nulls_are_int : found (BoundExpr-F.Coalesce (lone_null ∷ lone_null ∷ [])) ≡ typed Int
nulls_are_int = refl

one_column : found (BoundExpr-F.Scalar 0) ≡ typed Int
one_column = refl

two_columns : found (BoundExpr-F.Scalar 1) ≡ unformed
two_columns = refl

-- a TINYINT and a text are compared as numbers of type TINYINT
text_beside_number : formed (BoundTest-F.InList TinyInt (typed TinyInt) ((TinyInt, typed TinyInt) ∷ (BigInt, typed BigInt) ∷ [])) ≡ true
text_beside_number = refl

number_beside_text : formed (BoundTest-F.InList TinyInt (typed TinyInt) ((NText 3, typed (NText 3)) ∷ [])) ≡ false
number_beside_text = refl

no_system_value : form.expr_step checked (BoundExpr-F.System RowCount) ≡ unformed
no_system_value = refl

-- ---- whole trees

abbrev literal : ℕ → BoundExpr
literal n = expr.Constant (Whole (pos n))

-- 1 + 2 * 3
whole_tree : meaning.value setting (expr.Infix Add Int (literal 1) (expr.Infix Multiply Int (literal 2) (literal 3))) ≡ number 7
whole_tree = first_of (search rules, search (rules, the_lemmas), grind (arith, the_lemmas))

-- 1 = 1 OR 1/0 = 1
whole_test : meaning.truth setting (test.Or (test.Compare by.Equal (literal 1) (literal 1)) (test.Compare by.Equal (expr.Infix Divide Int (literal 1) (literal 0)) (literal 1))) ≡ Ok truth.True
whole_test = first_of (search rules, search (rules, the_lemmas), grind (arith, the_lemmas))
