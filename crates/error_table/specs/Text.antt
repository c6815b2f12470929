-- The text of an error that names something (own). A text of the table has at most one placeholder, which
-- is written {name} or {near}, and the name or lexeme in question comes into it. The code gives the
-- two parts around it, and who makes the message puts the name between them. Codes of
-- characters are all the same here, be they bytes of ASCII or units of UTF-16.
use Rattle.std.specs.Prelude.{◌<◌, All, ℕ, Bool, ◌==◌, if◌then◌else◌, List, ◌++◌, Option, None, Some}
use Rattle.std.specs.List.{before_first, after_first, list_any}

-- a text of ASCII
abbrev pub IsAscii : List ℕ → Type 0
IsAscii text = All (λ code. code < 0x80) text

-- { opens a placeholder
abbrev pub is_open : ℕ → Bool
is_open code = code == 0x7B

-- } closes it
abbrev pub is_close : ℕ → Bool
is_close code = code == 0x7D

-- what stands before the placeholder and what behind it, or None where the text has none
abbrev pub parts_of : List ℕ → Option (List ℕ × List ℕ)
parts_of text = if list_any is_open text then Some (before_first is_open text, after_first is_close text) else None

-- the text with this between its parts, or the text itself where it has no placeholder
abbrev pub text_between : Option (List ℕ × List ℕ) → List ℕ → List ℕ → List ℕ
text_between None name text = text
text_between (Some parts) name text = parts.0 ++ name ++ parts.1

-- the text with the name for its placeholder
abbrev pub text_with : List ℕ → List ℕ → List ℕ
text_with text name = text_between (parts_of text) name text
