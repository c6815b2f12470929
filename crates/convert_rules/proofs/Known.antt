-- What is known of a number decides its conversions.
use Rattle.std.proofs.Common.{◌≡◌, ℕ, zero, suc, ◌<◌, ℤ, pos, negsuc, Bool, true, false, not, List, [], ◌∷◌, length, Option, Some, None, refl, rules, arith}
use Rattle.std.specs.Ordering.{int_eq}
use Rattle.value_types.specs.declared.sql_type.SqlType.{SqlType}
use Rattle.value_types.specs.declared.sql_type.SqlType.TheVariants.{TinyInt, SmallInt, Int, BigInt, Bit as BitType, NText}
use Rattle.value_types.specs.Types.{is_in_range}
use Rattle.convert_rules.specs.declared.reading.TextNumber.TheVariants.{Known}
use Rattle.convert_rules.specs.Reading.{signed_number}
use Rattle.convert_rules.specs.Conversion.{whole_in, read_whole, read_bit}
use Rattle.convert_rules.specs.Partial.{known, text_number, whole_of, bit_of_read}

-- a number of more than 64 bits is in no range
narrower : (kind : SqlType) (number : ℤ) → is_in_range BigInt number ≡ false → is_in_range kind number ≡ false
narrower TinyInt number outside = grind arith
narrower SmallInt number outside = grind arith
narrower Int number outside = grind arith
narrower BigInt number outside = outside
narrower BitType number outside = refl
narrower (NText size) number outside = refl

-- and it isn't 0
not_zero : (number : ℤ) → is_in_range BigInt number ≡ false → not (int_eq number (pos 0)) ≡ true
not_zero (pos zero) outside = cc
not_zero (pos (suc n)) outside = search rules
not_zero (negsuc n) outside = refl

whole_by : (kind : SqlType) (number : ℤ) (inside : Bool) → is_in_range BigInt number ≡ inside → whole_of kind (known number) ≡ whole_in kind number
unfolding known
whole_by kind number true h = rw h refl
whole_by kind number false h = rw (h, narrower kind number h) refl

bit_by : (number : ℤ) (inside : Bool) → is_in_range BigInt number ≡ inside → bit_of_read (known number) ≡ read_bit (Some number)
unfolding known
bit_by number true h = rw h refl
bit_by number false h = rw (h, not_zero number h) refl

pub whole_of-text_number : (kind : SqlType) (read : Option ℤ) → whole_of kind (text_number read) ≡ read_whole kind read
whole_of-text_number kind None = refl
whole_of-text_number kind (Some number) = whole_by kind number (is_in_range BigInt number) refl

pub bit_of_read-text_number : (read : Option ℤ) → bit_of_read (text_number read) ≡ read_bit read
bit_of_read-text_number None = refl
bit_of_read-text_number (Some number) = bit_by number (is_in_range BigInt number) refl

-- a text of no units spells 0
pub empty_text : (text : List ℕ) → length text < 1 → Known (pos 0) ≡ text_number (signed_number text)
unfolding known
empty_text [] few = refl
empty_text (unit ∷ units) few = absurd (omega (arith, few))

pub ruleset known_rules = (whole_of-text_number, bit_of_read-text_number)
