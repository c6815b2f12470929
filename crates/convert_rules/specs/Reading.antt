-- Transact-SQL reference, "CAST and CONVERT": the whole number that a text spells, by spaces, an
-- optional sign, digits and spaces. Spaces alone, or nothing, spell 0; a lone sign spells no number
-- (own). A number is as large as its digits say here; the code gives up where it passes 64 bits.
use Rattle.std.specs.Prelude.{ℕ, ◌+◌, ◌-◌, ◌*◌, ℤ, pos, neg_ℤ, Bool, ◌==◌, ◌&&◌, nat_le, if◌then◌else◌, List, [], ◌∷◌, take, drop, Option, Some, None}
use Rattle.std.specs.List.{prefix_len, list_all}
use Rattle.value_types.specs.Order.{space}

abbrev pub plus : ℕ
plus = 0x2B

abbrev pub minus : ℕ
minus = 0x2D

abbrev pub zero_digit : ℕ
zero_digit = 0x30

abbrev pub is_space : ℕ → Bool
is_space unit = unit == space

-- 0 to 9
abbrev pub is_digit : ℕ → Bool
is_digit unit = nat_le zero_digit unit && nat_le unit 0x39

-- the number that digits make behind others of this value
abbrev pub value_behind : ℕ → List ℕ → ℕ
value_behind value [] = value
value_behind value (digit ∷ digits) = value_behind (10 * value + (digit - zero_digit)) digits

-- the number that digits spell in base ten
abbrev pub digits_value : List ℕ → ℕ
digits_value digits = value_behind 0 digits

-- the digits of units that are one digit or more and then spaces
unfoldable pub digits_in : List ℕ → Option (List ℕ)
digits_in units = let count = prefix_len is_digit units in
    if nat_le 1 count && list_all is_space (drop count units) then Some (take count units) else None

abbrev pub positive : Option (List ℕ) → Option ℤ
positive None = None
positive (Some digits) = Some (pos (digits_value digits))

abbrev pub negative : Option (List ℕ) → Option ℤ
negative None = None
negative (Some digits) = Some (neg_ℤ (pos (digits_value digits)))

-- the number of what stands behind the spaces in front
abbrev pub signed_number : List ℕ → Option ℤ
signed_number [] = Some (pos 0)
signed_number (first ∷ rest) =
    if first == plus then positive (digits_in rest)
    else if first == minus then negative (digits_in rest)
    else positive (digits_in (first ∷ rest))

-- the number that the text spells, if it spells one
abbrev pub number_in : List ℕ → Option ℤ
number_in text = signed_number (drop (prefix_len is_space text) text)
