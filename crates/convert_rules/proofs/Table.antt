-- The tables of conversions, row by row: each pair of kinds, the bounds and one past them, NULL, and texts
-- with blanks and signs.
use Rattle.std.proofs.Common.{◌≡◌, refl, true, false, pos, negsuc, Ok, Err, Result, List, [], ◌∷◌, map}
use Rattle.std.specs.Prelude.{codes}
use Rattle.std.specs.Fmt.{digits}
use Rattle.value_types.specs.declared.sql_type.SqlType.{SqlType}
use Rattle.value_types.specs.declared.sql_type.SqlType.TheVariants.{TinyInt, SmallInt, Int, BigInt, Bit as BitType, NText}
use Rattle.value_types.specs.declared.value.Value.{Value}
use Rattle.value_types.specs.declared.value.Value.TheVariants.{Null, Whole, Bit, Text}
use Rattle.convert_rules.specs.declared.fault.ConvertFault.{ConvertFault}
use Rattle.convert_rules.specs.declared.fault.ConvertFault.TheVariants.{Overflow, NotANumber, TooLong}
use Rattle.convert_rules.specs.Reading.{digits_in}
use Rattle.convert_rules.specs.Conversion.{converted, cast_of}

-- a value, the type that is wanted, and the answer
record Row : Type 0 where
  pub value : Value
  pub to : SqlType
  pub answer : Result Value ConvertFault

abbrev row : Value → SqlType → Result Value ConvertFault → Row
row value to answer = record { value = value; to = to; answer = answer }

-- NULL
abbrev null : List Row
null =
    row Null TinyInt (Ok Null)
    ∷ row Null SmallInt (Ok Null)
    ∷ row Null Int (Ok Null)
    ∷ row Null BigInt (Ok Null)
    ∷ row Null BitType (Ok Null)
    ∷ row Null (NText 1) (Ok Null)
    ∷ []

null-convert : map (λ row. converted row.value row.to) null ≡ map (λ row. row.answer) null
unfolding digits_in digits
null-convert = refl

null-cast : map (λ row. cast_of row.value row.to) null ≡ map (λ row. row.answer) null
unfolding digits_in digits
null-cast = refl

-- whole numbers to TINYINT
abbrev whole_numbers_to_tinyint : List Row
whole_numbers_to_tinyint =
    row (Whole (negsuc 0)) TinyInt (Err Overflow)
    ∷ row (Whole (pos 0)) TinyInt (Ok (Whole (pos 0)))
    ∷ row (Whole (pos 1)) TinyInt (Ok (Whole (pos 1)))
    ∷ row (Whole (pos 255)) TinyInt (Ok (Whole (pos 255)))
    ∷ row (Whole (pos 256)) TinyInt (Err Overflow)
    ∷ []

whole_numbers_to_tinyint-convert : map (λ row. converted row.value row.to) whole_numbers_to_tinyint ≡ map (λ row. row.answer) whole_numbers_to_tinyint
unfolding digits_in digits
whole_numbers_to_tinyint-convert = refl

whole_numbers_to_tinyint-cast : map (λ row. cast_of row.value row.to) whole_numbers_to_tinyint ≡ map (λ row. row.answer) whole_numbers_to_tinyint
unfolding digits_in digits
whole_numbers_to_tinyint-cast = refl

-- whole numbers to SMALLINT
abbrev whole_numbers_to_smallint : List Row
whole_numbers_to_smallint =
    row (Whole (negsuc 32768)) SmallInt (Err Overflow)
    ∷ row (Whole (negsuc 32767)) SmallInt (Ok (Whole (negsuc 32767)))
    ∷ row (Whole (negsuc 0)) SmallInt (Ok (Whole (negsuc 0)))
    ∷ row (Whole (pos 0)) SmallInt (Ok (Whole (pos 0)))
    ∷ row (Whole (pos 1)) SmallInt (Ok (Whole (pos 1)))
    ∷ row (Whole (pos 32767)) SmallInt (Ok (Whole (pos 32767)))
    ∷ row (Whole (pos 32768)) SmallInt (Err Overflow)
    ∷ []

whole_numbers_to_smallint-convert : map (λ row. converted row.value row.to) whole_numbers_to_smallint ≡ map (λ row. row.answer) whole_numbers_to_smallint
unfolding digits_in digits
whole_numbers_to_smallint-convert = refl

whole_numbers_to_smallint-cast : map (λ row. cast_of row.value row.to) whole_numbers_to_smallint ≡ map (λ row. row.answer) whole_numbers_to_smallint
unfolding digits_in digits
whole_numbers_to_smallint-cast = refl

-- whole numbers to INT
abbrev whole_numbers_to_int : List Row
whole_numbers_to_int =
    row (Whole (negsuc 2147483648)) Int (Err Overflow)
    ∷ row (Whole (negsuc 2147483647)) Int (Ok (Whole (negsuc 2147483647)))
    ∷ row (Whole (negsuc 0)) Int (Ok (Whole (negsuc 0)))
    ∷ row (Whole (pos 0)) Int (Ok (Whole (pos 0)))
    ∷ row (Whole (pos 1)) Int (Ok (Whole (pos 1)))
    ∷ row (Whole (pos 2147483647)) Int (Ok (Whole (pos 2147483647)))
    ∷ row (Whole (pos 2147483648)) Int (Err Overflow)
    ∷ []

whole_numbers_to_int-convert : map (λ row. converted row.value row.to) whole_numbers_to_int ≡ map (λ row. row.answer) whole_numbers_to_int
unfolding digits_in digits
whole_numbers_to_int-convert = refl

whole_numbers_to_int-cast : map (λ row. cast_of row.value row.to) whole_numbers_to_int ≡ map (λ row. row.answer) whole_numbers_to_int
unfolding digits_in digits
whole_numbers_to_int-cast = refl

-- whole numbers to BIGINT
abbrev whole_numbers_to_bigint : List Row
whole_numbers_to_bigint =
    row (Whole (negsuc 9223372036854775807)) BigInt (Ok (Whole (negsuc 9223372036854775807)))
    ∷ row (Whole (negsuc 0)) BigInt (Ok (Whole (negsuc 0)))
    ∷ row (Whole (pos 0)) BigInt (Ok (Whole (pos 0)))
    ∷ row (Whole (pos 1)) BigInt (Ok (Whole (pos 1)))
    ∷ row (Whole (pos 9223372036854775807)) BigInt (Ok (Whole (pos 9223372036854775807)))
    ∷ []

whole_numbers_to_bigint-convert : map (λ row. converted row.value row.to) whole_numbers_to_bigint ≡ map (λ row. row.answer) whole_numbers_to_bigint
unfolding digits_in digits
whole_numbers_to_bigint-convert = refl

whole_numbers_to_bigint-cast : map (λ row. cast_of row.value row.to) whole_numbers_to_bigint ≡ map (λ row. row.answer) whole_numbers_to_bigint
unfolding digits_in digits
whole_numbers_to_bigint-cast = refl

-- whole numbers to BIT
abbrev whole_numbers_to_bit : List Row
whole_numbers_to_bit =
    row (Whole (pos 0)) BitType (Ok (Bit false))
    ∷ row (Whole (pos 1)) BitType (Ok (Bit true))
    ∷ row (Whole (negsuc 0)) BitType (Ok (Bit true))
    ∷ row (Whole (pos 2)) BitType (Ok (Bit true))
    ∷ row (Whole (negsuc 9223372036854775807)) BitType (Ok (Bit true))
    ∷ row (Whole (pos 9223372036854775807)) BitType (Ok (Bit true))
    ∷ []

whole_numbers_to_bit-convert : map (λ row. converted row.value row.to) whole_numbers_to_bit ≡ map (λ row. row.answer) whole_numbers_to_bit
unfolding digits_in digits
whole_numbers_to_bit-convert = refl

whole_numbers_to_bit-cast : map (λ row. cast_of row.value row.to) whole_numbers_to_bit ≡ map (λ row. row.answer) whole_numbers_to_bit
unfolding digits_in digits
whole_numbers_to_bit-cast = refl

-- whole numbers to NVARCHAR(n): just long enough, and one unit short
abbrev whole_numbers_to_nvarchar : List Row
whole_numbers_to_nvarchar =
    row (Whole (pos 0)) (NText 1) (Ok (Text (codes "0")))
    ∷ row (Whole (pos 0)) (NText 0) (Err Overflow)
    ∷ row (Whole (pos 7)) (NText 1) (Ok (Text (codes "7")))
    ∷ row (Whole (pos 7)) (NText 0) (Err Overflow)
    ∷ row (Whole (negsuc 6)) (NText 2) (Ok (Text (codes "-7")))
    ∷ row (Whole (negsuc 6)) (NText 1) (Err Overflow)
    ∷ row (Whole (pos 255)) (NText 3) (Ok (Text (codes "255")))
    ∷ row (Whole (pos 255)) (NText 2) (Err Overflow)
    ∷ row (Whole (negsuc 32767)) (NText 6) (Ok (Text (codes "-32768")))
    ∷ row (Whole (negsuc 32767)) (NText 5) (Err Overflow)
    ∷ row (Whole (pos 2147483647)) (NText 10) (Ok (Text (codes "2147483647")))
    ∷ row (Whole (pos 2147483647)) (NText 9) (Err Overflow)
    ∷ row (Whole (negsuc 2147483647)) (NText 11) (Ok (Text (codes "-2147483648")))
    ∷ row (Whole (negsuc 2147483647)) (NText 10) (Err Overflow)
    ∷ row (Whole (pos 9223372036854775807)) (NText 19) (Ok (Text (codes "9223372036854775807")))
    ∷ row (Whole (pos 9223372036854775807)) (NText 18) (Err Overflow)
    ∷ row (Whole (negsuc 9223372036854775807)) (NText 20) (Ok (Text (codes "-9223372036854775808")))
    ∷ row (Whole (negsuc 9223372036854775807)) (NText 19) (Err Overflow)
    ∷ []

whole_numbers_to_nvarchar-convert : map (λ row. converted row.value row.to) whole_numbers_to_nvarchar ≡ map (λ row. row.answer) whole_numbers_to_nvarchar
unfolding digits_in digits
whole_numbers_to_nvarchar-convert = refl

whole_numbers_to_nvarchar-cast : map (λ row. cast_of row.value row.to) whole_numbers_to_nvarchar ≡ map (λ row. row.answer) whole_numbers_to_nvarchar
unfolding digits_in digits
whole_numbers_to_nvarchar-cast = refl

-- bits
abbrev bits : List Row
bits =
    row (Bit true) TinyInt (Ok (Whole (pos 1)))
    ∷ row (Bit false) TinyInt (Ok (Whole (pos 0)))
    ∷ row (Bit true) SmallInt (Ok (Whole (pos 1)))
    ∷ row (Bit false) SmallInt (Ok (Whole (pos 0)))
    ∷ row (Bit true) Int (Ok (Whole (pos 1)))
    ∷ row (Bit false) Int (Ok (Whole (pos 0)))
    ∷ row (Bit true) BigInt (Ok (Whole (pos 1)))
    ∷ row (Bit false) BigInt (Ok (Whole (pos 0)))
    ∷ row (Bit true) BitType (Ok (Bit true))
    ∷ row (Bit false) BitType (Ok (Bit false))
    ∷ row (Bit true) (NText 1) (Ok (Text (codes "1")))
    ∷ row (Bit false) (NText 5) (Ok (Text (codes "0")))
    ∷ row (Bit true) (NText 0) (Err Overflow)
    ∷ []

bits-convert : map (λ row. converted row.value row.to) bits ≡ map (λ row. row.answer) bits
unfolding digits_in digits
bits-convert = refl

bits-cast : map (λ row. cast_of row.value row.to) bits ≡ map (λ row. row.answer) bits
unfolding digits_in digits
bits-cast = refl

-- texts to TINYINT
abbrev texts_to_tinyint : List Row
texts_to_tinyint =
    row (Text (codes "0")) TinyInt (Ok (Whole (pos 0)))
    ∷ row (Text (codes "255")) TinyInt (Ok (Whole (pos 255)))
    ∷ row (Text (codes "-1")) TinyInt (Err Overflow)
    ∷ row (Text (codes "256")) TinyInt (Err Overflow)
    ∷ row (Text (codes "")) TinyInt (Ok (Whole (pos 0)))
    ∷ row (Text (codes "   ")) TinyInt (Ok (Whole (pos 0)))
    ∷ row (Text (codes "  +12 ")) TinyInt (Ok (Whole (pos 12)))
    ∷ row (Text (codes "0007")) TinyInt (Ok (Whole (pos 7)))
    ∷ row (Text (codes "-0")) TinyInt (Ok (Whole (pos 0)))
    ∷ row (Text (codes "+")) TinyInt (Err NotANumber)
    ∷ row (Text (codes " - ")) TinyInt (Err NotANumber)
    ∷ row (Text (codes "- 1")) TinyInt (Err NotANumber)
    ∷ row (Text (codes "+-1")) TinyInt (Err NotANumber)
    ∷ row (Text (codes "1 2")) TinyInt (Err NotANumber)
    ∷ row (Text (codes "1.0")) TinyInt (Err NotANumber)
    ∷ row (Text (codes "abc")) TinyInt (Err NotANumber)
    ∷ row (Text (codes "0x1")) TinyInt (Err NotANumber)
    ∷ row (Text (codes "1-")) TinyInt (Err NotANumber)
    ∷ row (Text (codes "99999999999999999999999")) TinyInt (Err Overflow)
    ∷ []

texts_to_tinyint-convert : map (λ row. converted row.value row.to) texts_to_tinyint ≡ map (λ row. row.answer) texts_to_tinyint
unfolding digits_in digits
texts_to_tinyint-convert = refl

texts_to_tinyint-cast : map (λ row. cast_of row.value row.to) texts_to_tinyint ≡ map (λ row. row.answer) texts_to_tinyint
unfolding digits_in digits
texts_to_tinyint-cast = refl

-- texts to SMALLINT
abbrev texts_to_smallint : List Row
texts_to_smallint =
    row (Text (codes "-32768")) SmallInt (Ok (Whole (negsuc 32767)))
    ∷ row (Text (codes "32767")) SmallInt (Ok (Whole (pos 32767)))
    ∷ row (Text (codes "-32769")) SmallInt (Err Overflow)
    ∷ row (Text (codes "32768")) SmallInt (Err Overflow)
    ∷ row (Text (codes "")) SmallInt (Ok (Whole (pos 0)))
    ∷ row (Text (codes "   ")) SmallInt (Ok (Whole (pos 0)))
    ∷ row (Text (codes "  +12 ")) SmallInt (Ok (Whole (pos 12)))
    ∷ row (Text (codes "0007")) SmallInt (Ok (Whole (pos 7)))
    ∷ row (Text (codes "-0")) SmallInt (Ok (Whole (pos 0)))
    ∷ row (Text (codes "+")) SmallInt (Err NotANumber)
    ∷ row (Text (codes " - ")) SmallInt (Err NotANumber)
    ∷ row (Text (codes "- 1")) SmallInt (Err NotANumber)
    ∷ row (Text (codes "+-1")) SmallInt (Err NotANumber)
    ∷ row (Text (codes "1 2")) SmallInt (Err NotANumber)
    ∷ row (Text (codes "1.0")) SmallInt (Err NotANumber)
    ∷ row (Text (codes "abc")) SmallInt (Err NotANumber)
    ∷ row (Text (codes "0x1")) SmallInt (Err NotANumber)
    ∷ row (Text (codes "1-")) SmallInt (Err NotANumber)
    ∷ row (Text (codes "99999999999999999999999")) SmallInt (Err Overflow)
    ∷ []

texts_to_smallint-convert : map (λ row. converted row.value row.to) texts_to_smallint ≡ map (λ row. row.answer) texts_to_smallint
unfolding digits_in digits
texts_to_smallint-convert = refl

texts_to_smallint-cast : map (λ row. cast_of row.value row.to) texts_to_smallint ≡ map (λ row. row.answer) texts_to_smallint
unfolding digits_in digits
texts_to_smallint-cast = refl

-- texts to INT
abbrev texts_to_int : List Row
texts_to_int =
    row (Text (codes "-2147483648")) Int (Ok (Whole (negsuc 2147483647)))
    ∷ row (Text (codes "2147483647")) Int (Ok (Whole (pos 2147483647)))
    ∷ row (Text (codes "-2147483649")) Int (Err Overflow)
    ∷ row (Text (codes "2147483648")) Int (Err Overflow)
    ∷ row (Text (codes "")) Int (Ok (Whole (pos 0)))
    ∷ row (Text (codes "   ")) Int (Ok (Whole (pos 0)))
    ∷ row (Text (codes "  +12 ")) Int (Ok (Whole (pos 12)))
    ∷ row (Text (codes "0007")) Int (Ok (Whole (pos 7)))
    ∷ row (Text (codes "-0")) Int (Ok (Whole (pos 0)))
    ∷ row (Text (codes "+")) Int (Err NotANumber)
    ∷ row (Text (codes " - ")) Int (Err NotANumber)
    ∷ row (Text (codes "- 1")) Int (Err NotANumber)
    ∷ row (Text (codes "+-1")) Int (Err NotANumber)
    ∷ row (Text (codes "1 2")) Int (Err NotANumber)
    ∷ row (Text (codes "1.0")) Int (Err NotANumber)
    ∷ row (Text (codes "abc")) Int (Err NotANumber)
    ∷ row (Text (codes "0x1")) Int (Err NotANumber)
    ∷ row (Text (codes "1-")) Int (Err NotANumber)
    ∷ row (Text (codes "99999999999999999999999")) Int (Err Overflow)
    ∷ []

texts_to_int-convert : map (λ row. converted row.value row.to) texts_to_int ≡ map (λ row. row.answer) texts_to_int
unfolding digits_in digits
texts_to_int-convert = refl

texts_to_int-cast : map (λ row. cast_of row.value row.to) texts_to_int ≡ map (λ row. row.answer) texts_to_int
unfolding digits_in digits
texts_to_int-cast = refl

-- texts to BIGINT
abbrev texts_to_bigint : List Row
texts_to_bigint =
    row (Text (codes "-9223372036854775808")) BigInt (Ok (Whole (negsuc 9223372036854775807)))
    ∷ row (Text (codes "9223372036854775807")) BigInt (Ok (Whole (pos 9223372036854775807)))
    ∷ row (Text (codes "-9223372036854775809")) BigInt (Err Overflow)
    ∷ row (Text (codes "9223372036854775808")) BigInt (Err Overflow)
    ∷ row (Text (codes "")) BigInt (Ok (Whole (pos 0)))
    ∷ row (Text (codes "   ")) BigInt (Ok (Whole (pos 0)))
    ∷ row (Text (codes "  +12 ")) BigInt (Ok (Whole (pos 12)))
    ∷ row (Text (codes "0007")) BigInt (Ok (Whole (pos 7)))
    ∷ row (Text (codes "-0")) BigInt (Ok (Whole (pos 0)))
    ∷ row (Text (codes "+")) BigInt (Err NotANumber)
    ∷ row (Text (codes " - ")) BigInt (Err NotANumber)
    ∷ row (Text (codes "- 1")) BigInt (Err NotANumber)
    ∷ row (Text (codes "+-1")) BigInt (Err NotANumber)
    ∷ row (Text (codes "1 2")) BigInt (Err NotANumber)
    ∷ row (Text (codes "1.0")) BigInt (Err NotANumber)
    ∷ row (Text (codes "abc")) BigInt (Err NotANumber)
    ∷ row (Text (codes "0x1")) BigInt (Err NotANumber)
    ∷ row (Text (codes "1-")) BigInt (Err NotANumber)
    ∷ row (Text (codes "99999999999999999999999")) BigInt (Err Overflow)
    ∷ []

texts_to_bigint-convert : map (λ row. converted row.value row.to) texts_to_bigint ≡ map (λ row. row.answer) texts_to_bigint
unfolding digits_in digits
texts_to_bigint-convert = refl

texts_to_bigint-cast : map (λ row. cast_of row.value row.to) texts_to_bigint ≡ map (λ row. row.answer) texts_to_bigint
unfolding digits_in digits
texts_to_bigint-cast = refl

-- texts to SMALLINT, INT and BIGINT below zero
abbrev texts_to_smallint_int_and_bigint_below_zero : List Row
texts_to_smallint_int_and_bigint_below_zero =
    row (Text (codes " -5  ")) SmallInt (Ok (Whole (negsuc 4)))
    ∷ row (Text (codes " -5  ")) Int (Ok (Whole (negsuc 4)))
    ∷ row (Text (codes " -5  ")) BigInt (Ok (Whole (negsuc 4)))
    ∷ []

texts_to_smallint_int_and_bigint_below_zero-convert : map (λ row. converted row.value row.to) texts_to_smallint_int_and_bigint_below_zero ≡ map (λ row. row.answer) texts_to_smallint_int_and_bigint_below_zero
unfolding digits_in digits
texts_to_smallint_int_and_bigint_below_zero-convert = refl

texts_to_smallint_int_and_bigint_below_zero-cast : map (λ row. cast_of row.value row.to) texts_to_smallint_int_and_bigint_below_zero ≡ map (λ row. row.answer) texts_to_smallint_int_and_bigint_below_zero
unfolding digits_in digits
texts_to_smallint_int_and_bigint_below_zero-cast = refl

-- texts to BIT
abbrev texts_to_bit : List Row
texts_to_bit =
    row (Text (codes "true")) BitType (Ok (Bit true))
    ∷ row (Text (codes "TRUE")) BitType (Ok (Bit true))
    ∷ row (Text (codes "fAlSe")) BitType (Ok (Bit false))
    ∷ row (Text (codes "0")) BitType (Ok (Bit false))
    ∷ row (Text (codes "1")) BitType (Ok (Bit true))
    ∷ row (Text (codes "-3")) BitType (Ok (Bit true))
    ∷ row (Text (codes "")) BitType (Ok (Bit false))
    ∷ row (Text (codes " ")) BitType (Ok (Bit false))
    ∷ row (Text (codes " 000 ")) BitType (Ok (Bit false))
    ∷ row (Text (codes "123456789012345678901234567890")) BitType (Ok (Bit true))
    ∷ row (Text (codes "-123456789012345678901234567890")) BitType (Ok (Bit true))
    ∷ row (Text (codes "true ")) BitType (Err NotANumber)
    ∷ row (Text (codes " false")) BitType (Err NotANumber)
    ∷ row (Text (codes "yes")) BitType (Err NotANumber)
    ∷ row (Text (codes "tru")) BitType (Err NotANumber)
    ∷ row (Text (codes "truee")) BitType (Err NotANumber)
    ∷ row (Text (codes "+")) BitType (Err NotANumber)
    ∷ row (Text (codes "t")) BitType (Err NotANumber)
    ∷ []

texts_to_bit-convert : map (λ row. converted row.value row.to) texts_to_bit ≡ map (λ row. row.answer) texts_to_bit
unfolding digits_in digits
texts_to_bit-convert = refl

texts_to_bit-cast : map (λ row. cast_of row.value row.to) texts_to_bit ≡ map (λ row. row.answer) texts_to_bit
unfolding digits_in digits
texts_to_bit-cast = refl

-- texts to NVARCHAR(n)
abbrev texts_to_nvarchar : List Row
texts_to_nvarchar =
    row (Text (codes "")) (NText 0) (Ok (Text (codes "")))
    ∷ row (Text (codes "")) (NText 1) (Ok (Text (codes "")))
    ∷ row (Text (codes "abc")) (NText 3) (Ok (Text (codes "abc")))
    ∷ row (Text (codes "abc")) (NText 4000) (Ok (Text (codes "abc")))
    ∷ row (Text (codes "a  ")) (NText 3) (Ok (Text (codes "a  ")))
    ∷ []

texts_to_nvarchar-convert : map (λ row. converted row.value row.to) texts_to_nvarchar ≡ map (λ row. row.answer) texts_to_nvarchar
unfolding digits_in digits
texts_to_nvarchar-convert = refl

texts_to_nvarchar-cast : map (λ row. cast_of row.value row.to) texts_to_nvarchar ≡ map (λ row. row.answer) texts_to_nvarchar
unfolding digits_in digits
texts_to_nvarchar-cast = refl

-- texts that are too long: refused by a conversion
abbrev long_texts : List Row
long_texts =
    row (Text (codes "abc")) (NText 2) (Err TooLong)
    ∷ row (Text (codes "abc")) (NText 0) (Err TooLong)
    ∷ row (Text (codes "a  ")) (NText 1) (Err TooLong)
    ∷ row (Text (codes " a")) (NText 1) (Err TooLong)
    ∷ row (Text (codes "abcd")) (NText 3) (Err TooLong)
    ∷ []

long_texts-convert : map (λ row. converted row.value row.to) long_texts ≡ map (λ row. row.answer) long_texts
long_texts-convert = refl

-- and cut by CAST
abbrev cut_texts : List Row
cut_texts =
    row (Text (codes "abc")) (NText 2) (Ok (Text (codes "ab")))
    ∷ row (Text (codes "abc")) (NText 0) (Ok (Text (codes "")))
    ∷ row (Text (codes "a  ")) (NText 1) (Ok (Text (codes "a")))
    ∷ row (Text (codes " a")) (NText 1) (Ok (Text (codes " ")))
    ∷ row (Text (codes "abcd")) (NText 3) (Ok (Text (codes "abc")))
    ∷ []

cut_texts-cast : map (λ row. cast_of row.value row.to) cut_texts ≡ map (λ row. row.answer) cut_texts
cut_texts-cast = refl
