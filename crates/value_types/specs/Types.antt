-- Transact-SQL reference, "int, bigint, smallint, and tinyint", "bit" and "nchar and nvarchar": which
-- values a type has. The code compares a number with ranges.
use Rattle.std.specs.Prelude.{◌≤◌, ℕ, ℤ, pos, negsuc, Bool, false, ◌&&◌, IsTrue, length, int_le}
use Rattle.value_types.specs.declared.sql_type.SqlType.{SqlType}
use Rattle.value_types.specs.declared.sql_type.SqlType.TheVariants.{TinyInt, SmallInt, Int, BigInt, Bit as BitType, NText}
use Rattle.value_types.specs.declared.value.Value.{Value}
use Rattle.value_types.specs.declared.value.Value.TheVariants.{Null, Whole, Bit, Text}

-- the number lies between these two
abbrev pub is_between : ℤ → ℤ → ℤ → Bool
is_between least greatest number = int_le least number && int_le number greatest

-- the number is in the range of the type of whole numbers: 0 to 255, -32768 to 32767, -2147483648 to
-- 2147483647, -9223372036854775808 to 9223372036854775807 (`negsuc n` is -(n + 1))
abbrev pub is_in_range : SqlType → ℤ → Bool
is_in_range TinyInt number = is_between (pos 0) (pos 255) number
is_in_range SmallInt number = is_between (negsuc 32767) (pos 32767) number
is_in_range Int number = is_between (negsuc 2147483647) (pos 2147483647) number
is_in_range BigInt number = is_between (negsuc 9223372036854775807) (pos 9223372036854775807) number
is_in_range BitType number = false
is_in_range (NText size) number = false

-- NULL is of every type; a whole number is of the types in whose range it is, a text of the types that
-- are long enough
abbrev pub IsOf : SqlType → Value → Type 0
IsOf kind Null = Unit {0}
IsOf kind (Whole number) = IsTrue (is_in_range kind number)
IsOf BitType (Bit bit) = Unit {0}
IsOf (NText size) (Text units) = length units ≤ size
IsOf kind value = ⊥

-- the most units of a type of texts
abbrev pub text_limit : ℕ
text_limit = 4000

-- a type of the value's own kind: the longest one, and INT where it is NULL (own)
abbrev pub type_of : Value → SqlType
type_of Null = Int
type_of (Whole number) = BigInt
type_of (Bit bit) = BitType
type_of (Text units) = NText text_limit
