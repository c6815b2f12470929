-- The value of digits, read from the left.
use Rattle.std.proofs.Common.{◌≡◌, ℕ, ◌+◌, ◌-◌, ◌*◌, ◌<◌, ◌≤◌, nat_le, true, false, None, Some, pos, List, [], ◌∷◌, length, drop, get_or, refl, ap, ◌∙◌, arith, drop-cons, add-one}
use Rattle.tsql_lexer.specs.Numbers.{value_behind, number_value, number_limit}
use Rattle.tsql_lexer.specs.Reading.{number_of}

-- more digits make no smaller number
pub value_behind-le : (value : ℕ) (digits : List ℕ) → value ≤ value_behind value digits
value_behind-le value [] = omega arith
value_behind-le value (digit ∷ digits) = omega (arith, value_behind-le (10 * value + (digit - 0x30)) digits)

-- one digit more
pub digit_at : (digits : List ℕ) (at value : ℕ) → at < length digits → value_behind value (drop at digits) ≡ value_behind (10 * value + (get_or digits at 0 - 0x30)) (drop (at + 1) digits)
digit_at digits at value within = ap (value_behind value) (drop-cons digits at 0 within) ∙ rw add-one refl

pub too_big : (digits : List ℕ) → number_limit < number_value digits → number_of digits ≡ None
unfolding number_of
too_big digits above =
    let over : nat_le (number_value digits) number_limit ≡ false = grind arith in
    rw over refl

pub fits : (digits : List ℕ) → number_value digits ≤ number_limit → number_of digits ≡ Some (pos (number_value digits))
unfolding number_of
fits digits within =
    let below : nat_le (number_value digits) number_limit ≡ true = grind arith in
    rw below refl
