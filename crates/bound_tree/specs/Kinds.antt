-- Transact-SQL reference, "Data type precedence": types in their order, the highest first BIGINT, INT,
-- SMALLINT, TINYINT, BIT, NVARCHAR. Operands of two types are converted to the higher.
use Rattle.std.specs.Prelude.{ℕ, max, Bool, nat_lt, nat_eq, ◌&&◌, unwrap_or, if◌then◌else◌, Option, Some, None}
use Rattle.value_types.specs.declared.sql_type.SqlType.{SqlType}
use Rattle.value_types.specs.declared.sql_type.SqlType.TheVariants.{TinyInt, SmallInt, Int, BigInt, Bit as BitType, NText}

-- the place of a type among the types, the lowest first
abbrev pub rank : SqlType → ℕ
rank (NText size) = 0
rank BitType = 1
rank TinyInt = 2
rank SmallInt = 3
rank Int = 4
rank BigInt = 5

-- of two texts the longer is meant
abbrev pub longer : SqlType → SqlType → SqlType
longer (NText n) (NText m) = NText (max n m)
longer a b = a

-- the higher of two types
abbrev pub higher : SqlType → SqlType → SqlType
higher a b = if nat_eq (rank a) (rank b) then longer a b else if nat_lt (rank a) (rank b) then b else a

-- both are texts, or both are the same type
abbrev pub are_alike : SqlType → SqlType → Bool
are_alike a b = nat_eq (rank a) (rank b)

-- how many units a text of the type may have
abbrev pub text_size : SqlType → Option ℕ
text_size (NText size) = Some size
text_size BitType = None
text_size TinyInt = None
text_size SmallInt = None
text_size Int = None
text_size BigInt = None

-- both are the same type
abbrev pub same_kind : SqlType → SqlType → Bool
same_kind a b = are_alike a b && nat_eq (unwrap_or (text_size a) 0) (unwrap_or (text_size b) 0)
