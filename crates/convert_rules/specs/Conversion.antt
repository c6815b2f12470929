-- Transact-SQL reference, "CAST and CONVERT" and "Data type conversion": what a value becomes as a value
-- of another type. The value says by itself of which kind it comes, so the rules go by the value and
-- the type that is wanted; whole numbers are of any size here, those of the code have 64 bits.
use Rattle.std.specs.Prelude.{◌≡◌, ℕ, ℤ, pos, Bool, true, false, not, ◌==◌, ◌&&◌, nat_le, if◌then◌else◌, List, length, zip, take, codes, Option, Some, None, Result, Ok, Err}
use Rattle.std.specs.List.{list_all}
use Rattle.std.specs.Fmt.{signed_decimal}
use Rattle.std.specs.Ordering.{int_eq}
use Rattle.std.specs.Char.{to_ascii_lowercase}
use Rattle.value_types.specs.declared.sql_type.SqlType.{SqlType}
use Rattle.value_types.specs.declared.sql_type.SqlType.TheVariants.{TinyInt, SmallInt, Int, BigInt, Bit as BitType, NText}
use Rattle.value_types.specs.declared.value.Value.{Value}
use Rattle.value_types.specs.declared.value.Value.TheVariants.{Null, Whole, Bit, Text}
use Rattle.value_types.specs.Types.{is_in_range}
use Rattle.convert_rules.specs.declared.fault.ConvertFault.{ConvertFault}
use Rattle.convert_rules.specs.declared.fault.ConvertFault.TheVariants.{Overflow, NotANumber, TooLong, Memory}
use Rattle.convert_rules.specs.Reading.{number_in}

-- ---- whole numbers

-- to a type of whole numbers: the number, where the type has it
abbrev pub whole_in : SqlType → ℤ → Result Value ConvertFault
whole_in kind number = if is_in_range kind number then Ok (Whole number) else Err Overflow

-- to BIT: whether it isn't 0
abbrev pub bit_of : ℤ → Value
bit_of number = Bit (not (int_eq number (pos 0)))

-- to a text: decimal digits with `-`, where they are not longer than the type
abbrev pub decimal_in : ℕ → ℤ → Result Value ConvertFault
decimal_in size number = if nat_le (length (signed_decimal number)) size then Ok (Text (signed_decimal number)) else Err Overflow

abbrev pub from_whole : SqlType → ℤ → Result Value ConvertFault
from_whole BitType number = Ok (bit_of number)
from_whole (NText size) number = decimal_in size number
from_whole TinyInt number = whole_in TinyInt number
from_whole SmallInt number = whole_in SmallInt number
from_whole Int number = whole_in Int number
from_whole BigInt number = whole_in BigInt number

-- ---- bits, which go as the numbers 0 and 1

abbrev pub bit_number : Bool → ℤ
bit_number bit = if bit then pos 1 else pos 0

-- ---- texts

-- to a type of whole numbers: the number that is read, where the type has it
abbrev pub read_whole : SqlType → Option ℤ → Result Value ConvertFault
read_whole kind None = Err NotANumber
read_whole kind (Some number) = whole_in kind number

-- to BIT, where it is no word: whether the number that is read isn't 0
abbrev pub read_bit : Option ℤ → Result Value ConvertFault
read_bit None = Err NotANumber
read_bit (Some number) = Ok (bit_of number)

-- the unit is this small letter, or its capital
abbrev pub is_letter : ℕ × ℕ → Bool
is_letter pair = to_ascii_lowercase pair.0 == pair.1

-- the text is this word of small letters, in letters of either case
abbrev pub says : List ℕ → List ℕ → Bool
says word units = length units == length word && list_all is_letter (zip units word)

-- to BIT: `true` and `false`, else a number of any size (own)
abbrev pub bit_in : List ℕ → Result Value ConvertFault
bit_in units =
    if says (codes "true") units then Ok (Bit true)
    else if says (codes "false") units then Ok (Bit false)
    else read_bit (number_in units)

-- to a text: the same, where it is not longer than the type
abbrev pub text_in : ℕ → List ℕ → Result Value ConvertFault
text_in size units = if nat_le (length units) size then Ok (Text units) else Err TooLong

abbrev pub from_text : SqlType → List ℕ → Result Value ConvertFault
from_text BitType units = bit_in units
from_text (NText size) units = text_in size units
from_text TinyInt units = read_whole TinyInt (number_in units)
from_text SmallInt units = read_whole SmallInt (number_in units)
from_text Int units = read_whole Int (number_in units)
from_text BigInt units = read_whole BigInt (number_in units)

-- ---- values

-- the conversion of a value to a type
abbrev pub converted : Value → SqlType → Result Value ConvertFault
converted Null to = Ok Null
converted (Whole number) to = from_whole to number
converted (Bit bit) to = from_whole to (bit_number bit)
converted (Text units) to = from_text to units

-- the text cut to the size
abbrev pub text_cut : SqlType → List ℕ → Result Value ConvertFault
text_cut (NText size) units = Ok (Text (take size units))
text_cut to units = from_text to units

-- the same by CAST, which cuts a text that is too long
abbrev pub cast_of : Value → SqlType → Result Value ConvertFault
cast_of (Text units) to = text_cut to units
cast_of value to = converted value to

-- ---- answers

-- it gives this answer, where memory is not wanting
abbrev pub Gives : Result Value ConvertFault → Result Value ConvertFault → Type 0
Gives (Ok value) answer = answer ≡ Ok value
Gives (Err Overflow) answer = answer ≡ Err Overflow
Gives (Err NotANumber) answer = answer ≡ Err NotANumber
Gives (Err TooLong) answer = answer ≡ Err TooLong
Gives (Err Memory) answer = Unit {0}

-- a type of texts
abbrev pub is_text : SqlType → Bool
is_text (NText size) = true
is_text kind = false
