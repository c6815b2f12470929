-- Own: the numbers that the words of a script spell: decimal digits, leading zeros allowed, with one `-` before
-- them exactly where the number is negative. Numbers are of any size here; the code reads up to 64 bits.
use Rattle.std.specs.Prelude.{ℕ, suc, zero, ℤ, pos, negsuc, Bool, ◌==◌, ◌&&◌, nat_le, if◌then◌else◌, List, [], ◌∷◌, length, Option, Some, None, option_map}
use Rattle.std.specs.List.{list_all}
use Rattle.value_types.specs.declared.sql_type.SqlType.TheVariants.{BigInt}
use Rattle.value_types.specs.Types.{is_between, is_in_range}
use Rattle.convert_rules.specs.Reading.{minus, is_digit, digits_value}
use Rattle.step_model.specs.Exchange.{last_session}

-- ---- numbers of any size

-- a number without sign: one digit or more
unfoldable pub natural_in : List ℕ → Option ℕ
natural_in word = if nat_le 1 (length word) && list_all is_digit word then Some (digits_value word) else None

-- behind `-` stands a number that isn't 0
abbrev pub negative_in : Option ℕ → Option ℤ
negative_in None = None
negative_in (Some zero) = None
negative_in (Some (suc n)) = Some (negsuc n)

-- a whole number
unfoldable pub whole_in : List ℕ → Option ℤ
whole_in [] = None
whole_in (first ∷ rest) = if first == minus then negative_in (natural_in rest) else option_map pos (natural_in (first ∷ rest))

-- ---- the ranges

-- a number, where it passes this test
abbrev pub only : {A : Type 0} → (A → Bool) → Option A → Option A
only test None = None
only test (Some a) = if test a then Some a else None

abbrev pub is_session : ℕ → Bool
is_session n = nat_le 1 n && nat_le n last_session

-- the numbers of 64 bits without sign
abbrev pub is_mark : ℕ → Bool
is_mark n = nat_le n 18446744073709551615

abbrev pub is_long : ℤ → Bool
is_long z = is_in_range BigInt z

-- -10 to 10 (`negsuc n` is -(n + 1))
abbrev pub is_priority : ℤ → Bool
is_priority z = is_between (negsuc 9) (pos 10) z

-- a session: 1 to 64
unfoldable pub session_in : List ℕ → Option ℕ
session_in word = only is_session (natural_in word)

-- the number of a mark
unfoldable pub mark_in : List ℕ → Option ℕ
mark_in word = only is_mark (natural_in word)

-- a number of a key or of a row
unfoldable pub long_in : List ℕ → Option ℤ
long_in word = only is_long (whole_in word)

-- a deadlock priority
unfoldable pub priority_in : List ℕ → Option ℤ
priority_in word = only is_priority (whole_in word)
