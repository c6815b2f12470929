-- The value of digits, read from the left.
use Rattle.std.proofs.Common.{◌≡◌, ℕ, ◌+◌, ◌-◌, ◌*◌, ◌<◌, ◌≤◌, nat_le, true, false, None, Some, List, [], ◌∷◌, length, drop, get_or, refl, ap, ◌∙◌, arith, drop-cons, add-one}
use Rattle.convert_rules.specs.Reading.{value_behind, digits_value, zero_digit}
use Rattle.convert_rules.specs.Partial.{magnitude_limit, magnitude_of}

-- more digits make no smaller number
pub value_behind-le : (value : ℕ) (digits : List ℕ) → value ≤ value_behind value digits
value_behind-le value [] = omega arith
value_behind-le value (digit ∷ digits) = omega (arith, value_behind-le (10 * value + (digit - zero_digit)) digits)

-- one digit more
pub digit_at : (digits : List ℕ) (at value : ℕ) → at < length digits → value_behind value (drop at digits) ≡ value_behind (10 * value + (get_or digits at 0 - zero_digit)) (drop (at + 1) digits)
digit_at digits at value within = ap (value_behind value) (drop-cons digits at 0 within) ∙ rw add-one refl

pub too_great : (digits : List ℕ) → magnitude_limit < digits_value digits → magnitude_of digits ≡ None
unfolding magnitude_of
too_great digits above =
    let over : nat_le (digits_value digits) magnitude_limit ≡ false = grind arith in
    rw over refl

pub small_enough : (digits : List ℕ) → digits_value digits ≤ magnitude_limit → magnitude_of digits ≡ Some (digits_value digits)
unfolding magnitude_of
small_enough digits within =
    let below : nat_le (digits_value digits) magnitude_limit ≡ true = grind arith in
    rw below refl
