-- Own: reading a text from left to right, which finds the parts that `Lexes` speaks of. At each unit it either
-- goes on with the part that stands there, or looks which part begins; the code goes from part to part, with
-- places in the whole text, and may run out of memory.
use Rattle.std.specs.Prelude.{ℕ, ℤ, ◌≤◌, suc, zero, ◌+◌, ◌-◌, ◌==◌, ◌&&◌, nat_lt, nat_le, if◌then◌else◌, pos, List, [], ◌∷◌, take, drop, slice_index, Option, None, Some}
use Rattle.std.specs.List.{prefix_len}
use Rattle.tsql_lexer.specs.declared.lexeme.Lexeme.{Lexeme}
use Rattle.tsql_lexer.specs.declared.lexeme.Lexeme.TheVariants as lexemes
use Rattle.tsql_lexer.specs.declared.lexeme.Sign.{Sign}
use Rattle.tsql_lexer.specs.declared.lexeme.Sign.TheVariants as signs
use Rattle.tsql_lexer.specs.declared.lexeme.Spanned.{Spanned}
use Rattle.tsql_lexer.specs.declared.fault.Flaw.{Flaw}
use Rattle.tsql_lexer.specs.declared.fault.LexKind.TheVariants.{OpenText, OpenComment, OpenName, NumberTooBig, BadUnit}
use Rattle.tsql_lexer.specs.declared.opening.Opening.{Opening}
use Rattle.tsql_lexer.specs.declared.opening.Opening.TheVariants as opens
use Rattle.tsql_lexer.specs.declared.piece.Piece.{Piece}
use Rattle.tsql_lexer.specs.declared.piece.Piece.TheVariants.{Gap, Lexeme as Token, Flaw as Failure}
use Rattle.tsql_lexer.specs.Classes.{hyphen, slash, star, quote, double_quote, at_sign, bracket, closing_bracket, line_feed, is_blank, is_digit, is_word_start, is_word_unit, stays_in_line}
use Rattle.tsql_lexer.specs.Numbers.{number_value, number_limit}
use Rattle.tsql_lexer.specs.Comments.{comment_size}
use Rattle.tsql_lexer.specs.Quotes.{enclosed}
use Rattle.tsql_lexer.specs.Lexemes.{is_name}

-- ---- what the first two units open; 0 stands for a unit that is not there

unfoldable pub opening_of : ℕ → ℕ → Opening
opening_of first second =
    if is_blank first then opens.Blank
    else if first == hyphen && second == hyphen then opens.LineComment
    else if first == slash && second == star then opens.Comment
    else if first == 0x4E && second == quote then opens.NationalText
    else if is_word_start first then opens.Word
    else if is_digit first then opens.Number
    else if first == bracket then opens.Bracket
    else if first == double_quote then opens.DoubleQuote
    else if first == quote then opens.Text
    else if first == at_sign && second == at_sign then opens.SystemName
    else if first == at_sign then opens.Variable
    else opens.Sign

-- the sign of two units
unfoldable pub double_sign : ℕ → ℕ → Option Sign
double_sign first second =
    if first == 0x3C && second == 0x3E then Some signs.NotEqual
    else if first == 0x21 && second == 0x3D then Some signs.NotEqual
    else if first == 0x3C && second == 0x3D then Some signs.LessEqual
    else if first == 0x3E && second == 0x3D then Some signs.GreaterEqual
    else None

-- the sign of one unit
unfoldable pub single_sign : ℕ → Option Sign
single_sign unit =
    if unit == 0x28 then Some signs.Open
    else if unit == 0x29 then Some signs.Close
    else if unit == 0x2C then Some signs.Comma
    else if unit == 0x2E then Some signs.Dot
    else if unit == 0x3B then Some signs.Semicolon
    else if unit == 0x2B then Some signs.Plus
    else if unit == 0x2D then Some signs.Minus
    else if unit == 0x2A then Some signs.Star
    else if unit == 0x2F then Some signs.Slash
    else if unit == 0x25 then Some signs.Percent
    else if unit == 0x3D then Some signs.Equal
    else if unit == 0x3C then Some signs.Less
    else if unit == 0x3E then Some signs.Greater
    else None

-- ---- the piece that begins a text

-- the first units of a text, so many of them, as a lexeme that holds them
abbrev pub token_of : (List ℕ → Lexeme) → ℕ → List ℕ → Piece
token_of make size text = Token (make (take size text)) size

-- a word, as long as its units go
abbrev pub word_piece : List ℕ → Piece
word_piece text = token_of lexemes.Word (prefix_len is_word_unit text) text

-- a name of word units, at least so many with those that open it
unfoldable pub at_name_piece : (List ℕ → Lexeme) → ℕ → List ℕ → Piece
at_name_piece make least text =
    let size = prefix_len is_word_unit text in
    if nat_lt size least then Failure BadUnit else token_of make size text

-- the number that digits spell, if it is not too big
unfoldable pub number_of : List ℕ → Option ℤ
number_of digits = if nat_le (number_value digits) number_limit then Some (pos (number_value digits)) else None

abbrev pub number_by : Option ℤ → ℕ → Piece
number_by None size = Failure NumberTooBig
number_by (Some value) size = Token (lexemes.Number value) size

unfoldable pub number_piece : List ℕ → Piece
number_piece text = number_by (number_of (take (prefix_len is_digit text) text)) (prefix_len is_digit text)

-- what stands between a name's quotes, and its size with the closing one
abbrev pub name_by : Option (List ℕ × ℕ) → Piece
name_by None = Failure OpenName
name_by (Some name) = if is_name name.0 then Token (lexemes.Quoted name.0) (name.1 + 1) else Failure OpenName

unfoldable pub name_piece : ℕ → List ℕ → Piece
name_piece close text = name_by (enclosed close (drop 1 text))

-- what stands between a text's quotes, and its size with the closing one, where so many units open it
abbrev pub text_by : ℕ → Option (List ℕ × ℕ) → Piece
text_by front None = Failure OpenText
text_by front (Some text) = Token (lexemes.Text text.0) (front + text.1)

unfoldable pub text_piece : ℕ → List ℕ → Piece
text_piece front text = text_by front (enclosed quote (drop front text))

abbrev pub comment_by : Option ℕ → Piece
comment_by None = Failure OpenComment
comment_by (Some size) = Gap size

unfoldable pub comment_piece : List ℕ → Piece
comment_piece text = comment_by (comment_size text)

-- a sign of two units where there is one, else of one
abbrev pub sign_by : Option Sign → Option Sign → Piece
sign_by (Some sign) single = Token (lexemes.Sign sign) 2
sign_by None (Some sign) = Token (lexemes.Sign sign) 1
sign_by None None = Failure BadUnit

unfoldable pub sign_piece : ℕ → ℕ → Piece
sign_piece first second = sign_by (double_sign first second) (single_sign first)

unfoldable pub piece_by : Opening → List ℕ → Piece
piece_by opens.Blank text = Gap (prefix_len is_blank text)
piece_by opens.LineComment text = Gap (prefix_len stays_in_line text)
piece_by opens.Comment text = comment_piece text
piece_by opens.Word text = word_piece text
piece_by opens.Number text = number_piece text
piece_by opens.Bracket text = name_piece closing_bracket text
piece_by opens.DoubleQuote text = name_piece double_quote text
piece_by opens.Variable text = at_name_piece lexemes.Variable 2 text
piece_by opens.SystemName text = at_name_piece lexemes.SystemName 3 text
piece_by opens.Text text = text_piece 1 text
piece_by opens.NationalText text = text_piece 2 text
piece_by opens.Sign text = sign_piece (slice_index text 0) (slice_index text 1)

-- what begins a text of at least one unit
unfoldable pub piece_of : List ℕ → Piece
piece_of text = piece_by (opening_of (slice_index text 0) (slice_index text 1)) text

-- the piece, if there is one, has at least one unit and at most so many
abbrev pub IsWithin : ℕ → Piece → Type 0
IsWithin most (Gap size) = (1 ≤ size) × (size ≤ most)
IsWithin most (Token lexeme size) = (1 ≤ size) × (size ≤ most)
IsWithin most (Failure kind) = Unit {0}

-- ---- the pieces of a text, one after another

-- the line behind a unit on this line
abbrev pub line_after : ℕ → ℕ → ℕ
line_after line unit = if unit == line_feed then suc line else line

-- the lexeme, in front of those that are read behind it
abbrev pub put_before : Spanned → List Spanned × Option Flaw → List Spanned × Option Flaw
put_before lexeme read = (lexeme ∷ read.0, read.1)

-- what a piece makes of what is read from the unit behind its first one on, with so many units to pass over
abbrev pub goes_by : Piece → ℕ → ℕ → (ℕ → List Spanned × Option Flaw) → List Spanned × Option Flaw
goes_by (Gap size) at line behind = behind (size - 1)
goes_by (Token lexeme size) at line behind = put_before (record { lexeme = lexeme; start = at; end = at + size; line = line }) (behind (size - 1))
goes_by (Failure kind) at line behind = ([], Some (record { at = at; line = line; kind = kind }))

-- the lexemes from a unit on and the first flaw behind it, where so many units still belong to the part before
unfoldable pub read_on : List ℕ → ℕ → ℕ → ℕ → List Spanned × Option Flaw
read_on [] passing at line = ([], None)
read_on (unit ∷ units) (suc passing) at line = read_on units passing (suc at) (line_after line unit)
read_on (unit ∷ units) zero at line = goes_by (piece_of (unit ∷ units)) at line (λ passing. read_on units passing (suc at) (line_after line unit))

-- the lexemes of a text in front of its first flaw, and that flaw, if it has one
unfoldable pub lexing_of : List ℕ → List Spanned × Option Flaw
lexing_of text = read_on text 0 0 1
