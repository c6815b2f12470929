-- Transact-SQL reference, "Constants", "Database identifiers", "Variables" and "Operators": which units spell
-- a lexeme, and where it ends. Names are as long as their units go, doubled closing quotes belong to what they
-- stand in, and `N'` always opens a text (own). A lexeme is said of its own units here, and of the one behind
-- them; the code looks at the first two units of a text and goes on from there.
use Rattle.std.specs.Prelude.{◌≡◌, ◌⊎◌, ℕ, ◌-◌, ◌≤◌, ◌==◌, ◌&&◌, ◌||◌, not, Bool, true, nat_lt, if◌then◌else◌, IsTrue, ℤ, pos, List, [], ◌∷◌, ◌++◌, length, slice_index, codes}
use Rattle.std.specs.List.{list_all, list_any}
use Rattle.value_types.specs.Units.{same_units}
use Rattle.tsql_lexer.specs.declared.lexeme.Lexeme.{Lexeme}
use Rattle.tsql_lexer.specs.declared.lexeme.Lexeme.TheVariants.{Word, Quoted, Variable, SystemName, Number, Text, Sign}
use Rattle.tsql_lexer.specs.Classes.{space, double_quote, quote, at_sign, bracket, closing_bracket, is_digit, is_word_start, is_word_unit}
use Rattle.tsql_lexer.specs.Numbers.{number_value, number_limit}
use Rattle.tsql_lexer.specs.Quotes.{doubled}
use Rattle.tsql_lexer.specs.Signs.{sign_spellings}

-- ---- how a lexeme is spelled

-- at least one unit, all of which pass
abbrev pub IsRun : (ℕ → Bool) → List ℕ → Type 0
IsRun test [] = ⊥
IsRun test (unit ∷ units) = IsTrue (test unit) × IsTrue (list_all test units)

-- a unit that a word begins with, and units of words
abbrev pub IsWord : List ℕ → Type 0
IsWord [] = ⊥
IsWord (unit ∷ units) = IsTrue (is_word_start unit) × IsTrue (list_all is_word_unit units)

-- `@`, and units of words of which the first is no `@`
abbrev pub IsVariable : List ℕ → Type 0
IsVariable units = (first : ℕ) × (behind : List ℕ) × (units ≡ codes "@" ++ first ∷ behind) × IsRun is_word_unit (first ∷ behind) × IsTrue (not (first == at_sign))

-- `@@`, and units of words
abbrev pub IsSystemName : List ℕ → Type 0
IsSystemName units = (behind : List ℕ) × (units ≡ codes "@@" ++ behind) × IsRun is_word_unit behind

-- digits whose value is a number
abbrev pub IsNumber : List ℕ → ℤ → Type 0
IsNumber units value = IsRun is_digit units × (number_value units ≤ number_limit) × (value ≡ pos (number_value units))

-- at least one unit, and the last is no space
abbrev pub is_name : List ℕ → Bool
is_name name = nat_lt 0 (length name) && not (slice_index name (length name - 1) == space)

-- the value between these quotes, the closing one doubled inside
abbrev pub in_quotes : List ℕ → ℕ → List ℕ → List ℕ
in_quotes opening close value = opening ++ doubled close value ++ close ∷ []

-- the units are one of these texts
abbrev pub IsOneOf : List (List ℕ) → List ℕ → Type 0
IsOneOf [] units = ⊥
IsOneOf (text ∷ texts) units = (units ≡ text) ⊎ IsOneOf texts units

-- the units spell the lexeme
abbrev pub Spells : List ℕ → Lexeme → Type 0
Spells units (Word name) = (units ≡ name) × IsWord name
Spells units (Quoted name) = IsTrue (is_name name) × ((units ≡ in_quotes (codes "[") closing_bracket name) ⊎ (units ≡ in_quotes (codes "\"") double_quote name))
Spells units (Variable name) = (units ≡ name) × IsVariable name
Spells units (SystemName name) = (units ≡ name) × IsSystemName name
Spells units (Number value) = IsNumber units value
Spells units (Text text) = (units ≡ in_quotes (codes "'") quote text) ⊎ (units ≡ in_quotes (codes "N'") quote text)
Spells units (Sign sign) = IsOneOf (sign_spellings sign) units

-- ---- where a lexeme ends

-- the quote that closes a name which opens so
abbrev pub closing_of : ℕ → ℕ
closing_of opening = if opening == bracket then closing_bracket else opening

-- the signs of two units whose first is one too, and what opens a comment
abbrev pub longer_signs : List (List ℕ)
longer_signs = codes "<>" ∷ codes "<=" ∷ codes ">=" ∷ codes "--" ∷ codes "/*" ∷ []

-- the next unit belongs to what these units of a lexeme begin
abbrev pub goes_on : Lexeme → List ℕ → ℕ → Bool
goes_on (Word name) units next = is_word_unit next || (same_units units (codes "N") && next == quote)
goes_on (Quoted name) units next = next == closing_of (slice_index units 0)
goes_on (Variable name) units next = is_word_unit next
goes_on (SystemName name) units next = is_word_unit next
goes_on (Number value) units next = is_digit next
goes_on (Text text) units next = next == quote
goes_on (Sign sign) units next = list_any (same_units (units ++ next ∷ [])) longer_signs

-- the text is over, or its first unit fails the test
abbrev pub stops : (ℕ → Bool) → List ℕ → Bool
stops test [] = true
stops test (unit ∷ units) = not (test unit)

-- the units are this lexeme, where the others stand behind them
pub record IsLexeme (units behind : List ℕ) (lexeme : Lexeme) : Type 0 where
  pub spelled : Spells units lexeme
  pub ended : IsTrue (stops (goes_on lexeme units) behind)
