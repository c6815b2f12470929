-- Transact-SQL reference, "Database engine events and errors": the number of the error that a fault of a
-- conversion is, by the types. The code asks first whether the type that is converted is a text.
use Rattle.std.specs.Prelude.{ℤ, pos, Option, Some, None, if◌then◌else◌}
use Rattle.value_types.specs.declared.sql_type.SqlType.{SqlType}
use Rattle.value_types.specs.declared.sql_type.SqlType.TheVariants.{TinyInt, SmallInt, Int, BigInt, Bit as BitType, NText}
use Rattle.convert_rules.specs.declared.fault.ConvertFault.{ConvertFault}
use Rattle.convert_rules.specs.declared.fault.ConvertFault.TheVariants.{Overflow, NotANumber, TooLong, Memory}
use Rattle.convert_rules.specs.Conversion.{is_text}

-- a number is outside the type
abbrev pub number_outside : SqlType → ℤ
number_outside TinyInt = pos 220
number_outside SmallInt = pos 220
number_outside Int = pos 8115
number_outside BigInt = pos 8115
number_outside BitType = pos 8115
number_outside (NText size) = pos 8115

-- the number in a text is outside the type
abbrev pub text_outside : SqlType → ℤ
text_outside TinyInt = pos 244
text_outside SmallInt = pos 244
text_outside Int = pos 248
text_outside BigInt = pos 8115
text_outside BitType = pos 8115
text_outside (NText size) = pos 8115

-- the text is no number
abbrev pub no_number : SqlType → ℤ
no_number BigInt = pos 8114
no_number TinyInt = pos 245
no_number SmallInt = pos 245
no_number Int = pos 245
no_number BitType = pos 245
no_number (NText size) = pos 245

-- the number of the error that a conversion's fault is; want of memory is none
abbrev pub error_of : ConvertFault → SqlType → SqlType → Option ℤ
error_of Overflow from to = Some (if is_text from then text_outside to else number_outside to)
error_of NotANumber from to = Some (no_number to)
error_of TooLong from to = Some (pos 49006)
error_of Memory from to = None
