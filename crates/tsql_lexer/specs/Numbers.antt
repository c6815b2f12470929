-- Transact-SQL reference, "Constants": a number is the value of its digits in base ten, whatever zeros
-- stand in front. The code gives up at the first digit with which the value is too big.
use Rattle.std.specs.Prelude.{ℕ, ◌+◌, ◌-◌, ◌*◌, List, [], ◌∷◌}

-- the largest number
abbrev pub number_limit : ℕ
number_limit = 9223372036854775807

-- the number that digits make behind others of this value
abbrev pub value_behind : ℕ → List ℕ → ℕ
value_behind value [] = value
value_behind value (digit ∷ digits) = value_behind (10 * value + (digit - 0x30)) digits

-- the number that digits spell in base ten
abbrev pub number_value : List ℕ → ℕ
number_value digits = value_behind 0 digits
