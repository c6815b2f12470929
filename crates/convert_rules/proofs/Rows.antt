-- Worked rows of the tables of conversions and of their errors.
use Rattle.std.proofs.Common.{◌≡◌, refl, true, false, pos, negsuc, Some, Ok, Err}
use Rattle.std.specs.Prelude.{codes}
use Rattle.std.specs.Fmt.{digits}
use Rattle.value_types.specs.declared.sql_type.SqlType.TheVariants.{TinyInt, SmallInt, Int, BigInt, Bit as BitType, NText}
use Rattle.value_types.specs.declared.value.Value.TheVariants.{Null, Whole, Bit, Text}
use Rattle.convert_rules.specs.declared.fault.ConvertFault.TheVariants.{Overflow, NotANumber, TooLong}
use Rattle.convert_rules.specs.Reading.{digits_in}
use Rattle.convert_rules.specs.Conversion.{converted, cast_of}
use Rattle.convert_rules.specs.Errors.{error_of}

-- ---- whole numbers, at the bounds and one past them

tiny_most : converted (Whole (pos 255)) TinyInt ≡ Ok (Whole (pos 255))
tiny_most = refl

tiny_above : converted (Whole (pos 256)) TinyInt ≡ Err Overflow
tiny_above = refl

tiny_below : converted (Whole (negsuc 0)) TinyInt ≡ Err Overflow
tiny_below = refl

small_least : converted (Whole (negsuc 32767)) SmallInt ≡ Ok (Whole (negsuc 32767))
small_least = refl

small_below : converted (Whole (negsuc 32768)) SmallInt ≡ Err Overflow
small_below = refl

int_most : converted (Whole (pos 2147483647)) Int ≡ Ok (Whole (pos 2147483647))
int_most = refl

int_above : converted (Whole (pos 2147483648)) Int ≡ Err Overflow
int_above = refl

int_below : converted (Whole (negsuc 2147483648)) Int ≡ Err Overflow
int_below = refl

big_least : converted (Whole (negsuc 9223372036854775807)) BigInt ≡ Ok (Whole (negsuc 9223372036854775807))
big_least = refl

-- ---- bits

bit_of_two : converted (Whole (negsuc 1)) BitType ≡ Ok (Bit true)
bit_of_two = refl

bit_of_zero : converted (Whole (pos 0)) BitType ≡ Ok (Bit false)
bit_of_zero = refl

number_of_bit : converted (Bit true) TinyInt ≡ Ok (Whole (pos 1))
number_of_bit = refl

text_of_bit : converted (Bit false) (NText 1) ≡ Ok (Text (codes "0"))
unfolding digits
text_of_bit = refl

-- ---- numbers as texts

text_of_number : converted (Whole (negsuc 41)) (NText 3) ≡ Ok (Text (codes "-42"))
unfolding digits
text_of_number = refl

longer_number : converted (Whole (negsuc 41)) (NText 2) ≡ Err Overflow
unfolding digits
longer_number = refl

least_as_text : cast_of (Whole (negsuc 9223372036854775807)) (NText 20) ≡ Ok (Text (codes "-9223372036854775808"))
unfolding digits
least_as_text = refl

-- ---- texts as numbers

blanks_and_sign : converted (Text (codes "  -42 ")) Int ≡ Ok (Whole (negsuc 41))
unfolding digits_in
blanks_and_sign = refl

plus_sign : converted (Text (codes "+0007")) TinyInt ≡ Ok (Whole (pos 7))
unfolding digits_in
plus_sign = refl

nothing : converted (Text (codes "")) SmallInt ≡ Ok (Whole (pos 0))
nothing = refl

spaces_alone : converted (Text (codes "   ")) BigInt ≡ Ok (Whole (pos 0))
spaces_alone = refl

lone_sign : converted (Text (codes " - ")) Int ≡ Err NotANumber
unfolding digits_in
lone_sign = refl

space_behind_sign : converted (Text (codes "- 1")) Int ≡ Err NotANumber
unfolding digits_in
space_behind_sign = refl

two_numbers : converted (Text (codes "1 2")) Int ≡ Err NotANumber
unfolding digits_in
two_numbers = refl

least_of_text : converted (Text (codes "-9223372036854775808")) BigInt ≡ Ok (Whole (negsuc 9223372036854775807))
unfolding digits_in
least_of_text = refl

above_of_text : converted (Text (codes "9223372036854775808")) BigInt ≡ Err Overflow
unfolding digits_in
above_of_text = refl

-- ---- texts as bits

true_word : converted (Text (codes "tRUE")) BitType ≡ Ok (Bit true)
true_word = refl

false_word : converted (Text (codes "FALSE")) BitType ≡ Ok (Bit false)
false_word = refl

word_and_space : converted (Text (codes "true ")) BitType ≡ Err NotANumber
unfolding digits_in
word_and_space = refl

number_of_any_size : converted (Text (codes "99999999999999999999")) BitType ≡ Ok (Bit true)
unfolding digits_in
number_of_any_size = refl

-- ---- texts as texts, and NULL

longer_text : converted (Text (codes "abc")) (NText 2) ≡ Err TooLong
longer_text = refl

longer_text_cast : cast_of (Text (codes "abc")) (NText 2) ≡ Ok (Text (codes "ab"))
longer_text_cast = refl

null_stays : cast_of Null (NText 2) ≡ Ok Null
null_stays = refl

-- ---- errors

small_of_number : error_of Overflow BigInt SmallInt ≡ Some (pos 220)
small_of_number = refl

small_of_text : error_of Overflow (NText 5) SmallInt ≡ Some (pos 244)
small_of_text = refl

int_of_text : error_of Overflow (NText 11) Int ≡ Some (pos 248)
int_of_text = refl

big_of_text : error_of Overflow (NText 20) BigInt ≡ Some (pos 8115)
big_of_text = refl

no_big : error_of NotANumber (NText 1) BigInt ≡ Some (pos 8114)
no_big = refl

no_bit : error_of NotANumber (NText 1) BitType ≡ Some (pos 245)
no_bit = refl

long_text : error_of TooLong (NText 3) (NText 2) ≡ Some (pos 49006)
long_text = refl
