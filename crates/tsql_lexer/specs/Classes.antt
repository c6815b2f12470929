-- Transact-SQL reference, "Database identifiers" and "Constants": which units are blanks, digits and
-- units of words. They are ASCII's alone, and a word begins with a letter or `_` (own). The code
-- compares with ranges and constants of its own.
use Rattle.std.specs.Prelude.{ℕ, Bool, ◌==◌, ◌||◌, ◌&&◌, not, nat_le}

-- the unit at which a line ends
abbrev pub line_feed : ℕ
line_feed = 0x0A

-- units that have a meaning of their own, by their characters
abbrev pub space : ℕ
space = 0x20

abbrev pub double_quote : ℕ
double_quote = 0x22

abbrev pub quote : ℕ
quote = 0x27

abbrev pub star : ℕ
star = 0x2A

abbrev pub hyphen : ℕ
hyphen = 0x2D

abbrev pub slash : ℕ
slash = 0x2F

abbrev pub at_sign : ℕ
at_sign = 0x40

abbrev pub bracket : ℕ
bracket = 0x5B

abbrev pub closing_bracket : ℕ
closing_bracket = 0x5D

-- tab, line feed, carriage return and space
abbrev pub is_blank : ℕ → Bool
is_blank unit = unit == 0x09 || unit == line_feed || unit == 0x0D || unit == space

-- a unit that ends no line
abbrev pub stays_in_line : ℕ → Bool
stays_in_line unit = not (unit == line_feed)

-- 0 to 9
abbrev pub is_digit : ℕ → Bool
is_digit unit = nat_le 0x30 unit && nat_le unit 0x39

-- A to Z, a to z, and _
abbrev pub is_word_start : ℕ → Bool
is_word_start unit = (nat_le 0x41 unit && nat_le unit 0x5A) || (nat_le 0x61 unit && nat_le unit 0x7A) || unit == 0x5F

-- what a word may begin with, the digits, and @, $ and #
abbrev pub is_word_unit : ℕ → Bool
is_word_unit unit = is_word_start unit || is_digit unit || unit == at_sign || unit == 0x24 || unit == 0x23
