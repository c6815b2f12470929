-- Own: the numbers of the words: decimal digits without a sign or a leading zero.
use Rattle.std.specs.Prelude.{ℕ, Bool, ◌==◌, ◌&&◌, not, nat_le, if◌then◌else◌, List, slice_index, Option, Some, None}
use Rattle.std.specs.Str.Parse.{digits_value}
use Rattle.clap.specs.ValueTests.{is_numeral}

-- `0`
abbrev pub zero_digit : ℕ
zero_digit = 48

-- a digit or more, the first of them not 0
abbrev pub is_plain_number : List ℕ → Bool
is_plain_number text = is_numeral text && not (slice_index text 0 == zero_digit)

-- the number that the text spells, where it is at most `most`; it is at least 1
unfoldable pub number_in : ℕ → List ℕ → Option ℕ
number_in most text =
    if is_plain_number text && nat_le (digits_value 10 text) most then Some (digits_value 10 text) else None
