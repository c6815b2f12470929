-- Own: the numbers of texts as far as the code knows them. Private contracts alone cite this.
use Rattle.std.specs.Prelude.{ℕ, nat_le, ℤ, true, if◌then◌else◌, List, Option, Some, None, Result, Ok, Err}
use Rattle.value_types.specs.declared.sql_type.SqlType.{SqlType}
use Rattle.value_types.specs.declared.sql_type.SqlType.TheVariants.{BigInt}
use Rattle.value_types.specs.declared.value.Value.{Value}
use Rattle.value_types.specs.declared.value.Value.TheVariants.{Bit}
use Rattle.value_types.specs.Types.{is_in_range}
use Rattle.convert_rules.specs.declared.fault.ConvertFault.{ConvertFault}
use Rattle.convert_rules.specs.declared.fault.ConvertFault.TheVariants.{Overflow, NotANumber}
use Rattle.convert_rules.specs.Conversion.{whole_in, bit_of}
use Rattle.convert_rules.specs.declared.reading.TextNumber.{TextNumber}
use Rattle.convert_rules.specs.declared.reading.TextNumber.TheVariants.{NoNumber, Beyond, Known}
use Rattle.convert_rules.specs.Reading.{digits_value}

-- the greatest number whose negative has 64 bits
abbrev pub magnitude_limit : ℕ
magnitude_limit = 9223372036854775808

-- the number of the digits, if it is not above the limit
unfoldable pub magnitude_of : List ℕ → Option ℕ
magnitude_of digits = if nat_le (digits_value digits) magnitude_limit then Some (digits_value digits) else None

-- a number if it has 64 bits
unfoldable pub known : ℤ → TextNumber
known number = if is_in_range BigInt number then Known number else Beyond

abbrev pub text_number : Option ℤ → TextNumber
text_number None = NoNumber
text_number (Some number) = known number

-- what was read, as a number of a type of whole numbers
abbrev pub whole_of : SqlType → TextNumber → Result Value ConvertFault
whole_of kind NoNumber = Err NotANumber
whole_of kind Beyond = Err Overflow
whole_of kind (Known number) = whole_in kind number

-- what was read, as a bit
abbrev pub bit_of_read : TextNumber → Result Value ConvertFault
bit_of_read NoNumber = Err NotANumber
bit_of_read Beyond = Ok (Bit true)
bit_of_read (Known number) = Ok (bit_of number)
