-- Worked rows of the lexical rules: what each text is read as, by computing.
use Rattle.std.proofs.Common.{◌≡◌, ℕ, pos, Option, None, Some, List, [], ◌∷◌, ◌++◌, codes, refl}
use Rattle.tsql_lexer.specs.declared.lexeme.Lexeme.{Lexeme}
use Rattle.tsql_lexer.specs.declared.lexeme.Lexeme.TheVariants.{Word, Quoted, Variable, SystemName, Number, Text, Sign}
use Rattle.tsql_lexer.specs.declared.lexeme.Sign.TheVariants as signs
use Rattle.tsql_lexer.specs.declared.lexeme.Spanned.{Spanned}
use Rattle.tsql_lexer.specs.declared.fault.Flaw.{Flaw}
use Rattle.tsql_lexer.specs.declared.fault.LexKind.{LexKind}
use Rattle.tsql_lexer.specs.declared.fault.LexKind.TheVariants.{OpenText, OpenComment, OpenName, NumberTooBig, BadUnit}
use Rattle.tsql_lexer.specs.Comments.{closing_size}
use Rattle.tsql_lexer.specs.Quotes.{enclosed}
use Rattle.tsql_lexer.specs.Reading.{opening_of, double_sign, single_sign, at_name_piece, number_of, number_piece, name_piece, text_piece, comment_piece, sign_piece, piece_by, piece_of, read_on, lexing_of}

-- a lexeme from a place to another, on a line
abbrev span : Lexeme → ℕ → ℕ → ℕ → Spanned
span lexeme start end line = record { lexeme = lexeme; start = start; end = end; line = line }

-- the rules fail at a place, on a line
abbrev fails : ℕ → ℕ → LexKind → Option Flaw
fails at line kind = Some (record { at = at; line = line; kind = kind })

-- the text is read as these lexemes, up to this flaw
abbrev Row : List ℕ → List Spanned → Option Flaw → Type 0
Row text lexemes flaw = lexing_of text ≡ (lexemes, flaw)

-- no unit
empty : Row [] ([]) None
unfolding lexing_of read_on piece_of piece_by sign_piece comment_piece text_piece name_piece number_piece number_of at_name_piece single_sign double_sign opening_of enclosed closing_size
empty = refl

-- a word and a number
select_one : Row (codes "SELECT 1") ((span (Word (codes "SELECT")) 0 6 1) ∷ (span (Number (pos 1)) 7 8 1) ∷ []) None
unfolding lexing_of read_on piece_of piece_by sign_piece comment_piece text_piece name_piece number_piece number_of at_name_piece single_sign double_sign opening_of enclosed closing_size
select_one = refl

-- a line ends at 0x0A and not at 0x0D
lines : Row (codes "a" ++ 0x0D ∷ codes "b" ++ 0x0A ∷ codes "c") ((span (Word (codes "a")) 0 1 1) ∷ (span (Word (codes "b")) 2 3 1) ∷ (span (Word (codes "c")) 4 5 2) ∷ []) None
unfolding lexing_of read_on piece_of piece_by sign_piece comment_piece text_piece name_piece number_piece number_of at_name_piece single_sign double_sign opening_of enclosed closing_size
lines = refl

-- the four blanks
blanks : Row (0x09 ∷ 0x0A ∷ 0x0D ∷ 0x20 ∷ codes "a") ((span (Word (codes "a")) 4 5 2) ∷ []) None
unfolding lexing_of read_on piece_of piece_by sign_piece comment_piece text_piece name_piece number_piece number_of at_name_piece single_sign double_sign opening_of enclosed closing_size
blanks = refl

-- a form feed is no blank
other_blank : Row (codes "a" ++ 0x0C ∷ []) ((span (Word (codes "a")) 0 1 1) ∷ []) (fails 1 1 BadUnit)
unfolding lexing_of read_on piece_of piece_by sign_piece comment_piece text_piece name_piece number_piece number_of at_name_piece single_sign double_sign opening_of enclosed closing_size
other_blank = refl

-- no blank is wanted between lexemes
joined : Row (codes "1a") ((span (Number (pos 1)) 0 1 1) ∷ (span (Word (codes "a")) 1 2 1) ∷ []) None
unfolding lexing_of read_on piece_of piece_by sign_piece comment_piece text_piece name_piece number_piece number_of at_name_piece single_sign double_sign opening_of enclosed closing_size
joined = refl

-- a word goes on with digits, _, @, $ and #
word_units : Row (codes "_a1_@$#-") ((span (Word (codes "_a1_@$#")) 0 7 1) ∷ (span (Sign signs.Minus) 7 8 1) ∷ []) None
unfolding lexing_of read_on piece_of piece_by sign_piece comment_piece text_piece name_piece number_piece number_of at_name_piece single_sign double_sign opening_of enclosed closing_size
word_units = refl

-- a comment to the line's end
line_comment : Row (codes "--x/*" ++ 0x0A ∷ codes "a") ((span (Word (codes "a")) 6 7 2) ∷ []) None
unfolding lexing_of read_on piece_of piece_by sign_piece comment_piece text_piece name_piece number_piece number_of at_name_piece single_sign double_sign opening_of enclosed closing_size
line_comment = refl

-- a comment to the text's end
last_comment : Row (codes "a--b") ((span (Word (codes "a")) 0 1 1) ∷ []) None
unfolding lexing_of read_on piece_of piece_by sign_piece comment_piece text_piece name_piece number_piece number_of at_name_piece single_sign double_sign opening_of enclosed closing_size
last_comment = refl

-- minus signs apart begin no comment
apart : Row (codes "- -") ((span (Sign signs.Minus) 0 1 1) ∷ (span (Sign signs.Minus) 2 3 1) ∷ []) None
unfolding lexing_of read_on piece_of piece_by sign_piece comment_piece text_piece name_piece number_piece number_of at_name_piece single_sign double_sign opening_of enclosed closing_size
apart = refl

-- comments nest
nested : Row (codes "/*/**/*/a") ((span (Word (codes "a")) 8 9 1) ∷ []) None
unfolding lexing_of read_on piece_of piece_by sign_piece comment_piece text_piece name_piece number_piece number_of at_name_piece single_sign double_sign opening_of enclosed closing_size
nested = refl

-- a star closes no comment that it opens
shared_star : Row (codes "/*/ a") ([]) (fails 0 1 OpenComment)
unfolding lexing_of read_on piece_of piece_by sign_piece comment_piece text_piece name_piece number_piece number_of at_name_piece single_sign double_sign opening_of enclosed closing_size
shared_star = refl

-- -- within a comment begins none
dashes_inside : Row (codes "/*--*/a") ((span (Word (codes "a")) 6 7 1) ∷ []) None
unfolding lexing_of read_on piece_of piece_by sign_piece comment_piece text_piece name_piece number_piece number_of at_name_piece single_sign double_sign opening_of enclosed closing_size
dashes_inside = refl

-- the fault stands at the outermost opening
open_comment : Row (codes "a /* /* */") ((span (Word (codes "a")) 0 1 1) ∷ []) (fails 2 1 OpenComment)
unfolding lexing_of read_on piece_of piece_by sign_piece comment_piece text_piece name_piece number_piece number_of at_name_piece single_sign double_sign opening_of enclosed closing_size
open_comment = refl

-- */ outside a comment is two signs
no_comment : Row (codes "*/") ((span (Sign signs.Star) 0 1 1) ∷ (span (Sign signs.Slash) 1 2 1) ∷ []) None
unfolding lexing_of read_on piece_of piece_by sign_piece comment_piece text_piece name_piece number_piece number_of at_name_piece single_sign double_sign opening_of enclosed closing_size
no_comment = refl

-- a name in brackets, ]] for ]
bracketed : Row (codes "[a]]b]") ((span (Quoted (codes "a]b")) 0 6 1) ∷ []) None
unfolding lexing_of read_on piece_of piece_by sign_piece comment_piece text_piece name_piece number_piece number_of at_name_piece single_sign double_sign opening_of enclosed closing_size
bracketed = refl

-- a name in double quotes, doubled inside
double_quoted : Row (codes "\"a\"\"b\"") ((span (Quoted (codes "a\"b")) 0 6 1) ∷ []) None
unfolding lexing_of read_on piece_of piece_by sign_piece comment_piece text_piece name_piece number_piece number_of at_name_piece single_sign double_sign opening_of enclosed closing_size
double_quoted = refl

-- a doubled closer closes nothing
open_bracket : Row (codes "[a]]") ([]) (fails 0 1 OpenName)
unfolding lexing_of read_on piece_of piece_by sign_piece comment_piece text_piece name_piece number_piece number_of at_name_piece single_sign double_sign opening_of enclosed closing_size
open_bracket = refl

-- an empty name
empty_name : Row (codes "a []") ((span (Word (codes "a")) 0 1 1) ∷ []) (fails 2 1 OpenName)
unfolding lexing_of read_on piece_of piece_by sign_piece comment_piece text_piece name_piece number_piece number_of at_name_piece single_sign double_sign opening_of enclosed closing_size
empty_name = refl

-- a name that ends in a space
name_with_space : Row (codes "[a ]") ([]) (fails 0 1 OpenName)
unfolding lexing_of read_on piece_of piece_by sign_piece comment_piece text_piece name_piece number_piece number_of at_name_piece single_sign double_sign opening_of enclosed closing_size
name_with_space = refl

-- the name is said with its doubling undone
closer_name : Row (codes "[]]]") ((span (Quoted (codes "]")) 0 4 1) ∷ []) None
unfolding lexing_of read_on piece_of piece_by sign_piece comment_piece text_piece name_piece number_piece number_of at_name_piece single_sign double_sign opening_of enclosed closing_size
closer_name = refl

-- a variable and a system name
variable : Row (codes "@a @@b") ((span (Variable (codes "@a")) 0 2 1) ∷ (span (SystemName (codes "@@b")) 3 6 1) ∷ []) None
unfolding lexing_of read_on piece_of piece_by sign_piece comment_piece text_piece name_piece number_piece number_of at_name_piece single_sign double_sign opening_of enclosed closing_size
variable = refl

-- a variable may begin with a digit
variable_of_digits : Row (codes "@1") ((span (Variable (codes "@1")) 0 2 1) ∷ []) None
unfolding lexing_of read_on piece_of piece_by sign_piece comment_piece text_piece name_piece number_piece number_of at_name_piece single_sign double_sign opening_of enclosed closing_size
variable_of_digits = refl

-- @ wants a word unit behind it
lone_at : Row (codes "@ a") ([]) (fails 0 1 BadUnit)
unfolding lexing_of read_on piece_of piece_by sign_piece comment_piece text_piece name_piece number_piece number_of at_name_piece single_sign double_sign opening_of enclosed closing_size
lone_at = refl

-- and so does @@
two_ats : Row (codes "1 @@") ((span (Number (pos 1)) 0 1 1) ∷ []) (fails 2 1 BadUnit)
unfolding lexing_of read_on piece_of piece_by sign_piece comment_piece text_piece name_piece number_piece number_of at_name_piece single_sign double_sign opening_of enclosed closing_size
two_ats = refl

-- @ is a word unit
three_ats : Row (codes "@@@") ((span (SystemName (codes "@@@")) 0 3 1) ∷ []) None
unfolding lexing_of read_on piece_of piece_by sign_piece comment_piece text_piece name_piece number_piece number_of at_name_piece single_sign double_sign opening_of enclosed closing_size
three_ats = refl

-- the greatest number
greatest : Row (codes "9223372036854775807") ((span (Number (pos 9223372036854775807)) 0 19 1) ∷ []) None
unfolding lexing_of read_on piece_of piece_by sign_piece comment_piece text_piece name_piece number_piece number_of at_name_piece single_sign double_sign opening_of enclosed closing_size
greatest = refl

-- a number too big
too_big : Row (codes "9223372036854775808") ([]) (fails 0 1 NumberTooBig)
unfolding lexing_of read_on piece_of piece_by sign_piece comment_piece text_piece name_piece number_piece number_of at_name_piece single_sign double_sign opening_of enclosed closing_size
too_big = refl

-- leading zeros do not count
zeros : Row (codes "00000000000000000000000000007") ((span (Number (pos 7)) 0 29 1) ∷ []) None
unfolding lexing_of read_on piece_of piece_by sign_piece comment_piece text_piece name_piece number_piece number_of at_name_piece single_sign double_sign opening_of enclosed closing_size
zeros = refl

-- a text, the doubled quote undone
quoted_text : Row (codes "'a''b'") ((span (Text (codes "a'b")) 0 6 1) ∷ []) None
unfolding lexing_of read_on piece_of piece_by sign_piece comment_piece text_piece name_piece number_piece number_of at_name_piece single_sign double_sign opening_of enclosed closing_size
quoted_text = refl

-- a text of no units
empty_text : Row (codes "''") ((span (Text []) 0 2 1) ∷ []) None
unfolding lexing_of read_on piece_of piece_by sign_piece comment_piece text_piece name_piece number_piece number_of at_name_piece single_sign double_sign opening_of enclosed closing_size
empty_text = refl

-- a text behind N' is one lexeme
national : Row (codes "N'a'") ((span (Text (codes "a")) 0 4 1) ∷ []) None
unfolding lexing_of read_on piece_of piece_by sign_piece comment_piece text_piece name_piece number_piece number_of at_name_piece single_sign double_sign opening_of enclosed closing_size
national = refl

-- n' is a word and a text
small_n : Row (codes "n'a'") ((span (Word (codes "n")) 0 1 1) ∷ (span (Text (codes "a")) 1 4 1) ∷ []) None
unfolding lexing_of read_on piece_of piece_by sign_piece comment_piece text_piece name_piece number_piece number_of at_name_piece single_sign double_sign opening_of enclosed closing_size
small_n = refl

-- so is a longer word before a quote
longer_word : Row (codes "NN'a'") ((span (Word (codes "NN")) 0 2 1) ∷ (span (Text (codes "a")) 2 5 1) ∷ []) None
unfolding lexing_of read_on piece_of piece_by sign_piece comment_piece text_piece name_piece number_piece number_of at_name_piece single_sign double_sign opening_of enclosed closing_size
longer_word = refl

-- a text that is not closed, at its opening
open_text : Row (codes "a 'b''") ((span (Word (codes "a")) 0 1 1) ∷ []) (fails 2 1 OpenText)
unfolding lexing_of read_on piece_of piece_by sign_piece comment_piece text_piece name_piece number_piece number_of at_name_piece single_sign double_sign opening_of enclosed closing_size
open_text = refl

-- at the N of N'
open_national : Row (codes "N'") ([]) (fails 0 1 OpenText)
unfolding lexing_of read_on piece_of piece_by sign_piece comment_piece text_piece name_piece number_piece number_of at_name_piece single_sign double_sign opening_of enclosed closing_size
open_national = refl

-- signs as long as they can be
signs_of_two : Row (codes "<>!=<=>=") ((span (Sign signs.NotEqual) 0 2 1) ∷ (span (Sign signs.NotEqual) 2 4 1) ∷ (span (Sign signs.LessEqual) 4 6 1) ∷ (span (Sign signs.GreaterEqual) 6 8 1) ∷ []) None
unfolding lexing_of read_on piece_of piece_by sign_piece comment_piece text_piece name_piece number_piece number_of at_name_piece single_sign double_sign opening_of enclosed closing_size
signs_of_two = refl

-- signs of one unit
signs_of_one : Row (codes "(),.;+-*/%=<") ((span (Sign signs.Open) 0 1 1) ∷ (span (Sign signs.Close) 1 2 1) ∷ (span (Sign signs.Comma) 2 3 1) ∷ (span (Sign signs.Dot) 3 4 1) ∷ (span (Sign signs.Semicolon) 4 5 1) ∷ (span (Sign signs.Plus) 5 6 1) ∷ (span (Sign signs.Minus) 6 7 1) ∷ (span (Sign signs.Star) 7 8 1) ∷ (span (Sign signs.Slash) 8 9 1) ∷ (span (Sign signs.Percent) 9 10 1) ∷ (span (Sign signs.Equal) 10 11 1) ∷ (span (Sign signs.Less) 11 12 1) ∷ []) None
unfolding lexing_of read_on piece_of piece_by sign_piece comment_piece text_piece name_piece number_piece number_of at_name_piece single_sign double_sign opening_of enclosed closing_size
signs_of_one = refl

-- > and >
greater_greater : Row (codes ">>=") ((span (Sign signs.Greater) 0 1 1) ∷ (span (Sign signs.GreaterEqual) 1 3 1) ∷ []) None
unfolding lexing_of read_on piece_of piece_by sign_piece comment_piece text_piece name_piece number_piece number_of at_name_piece single_sign double_sign opening_of enclosed closing_size
greater_greater = refl

-- ! begins a sign only before =
lone_mark : Row (codes "a ! =") ((span (Word (codes "a")) 0 1 1) ∷ []) (fails 2 1 BadUnit)
unfolding lexing_of read_on piece_of piece_by sign_piece comment_piece text_piece name_piece number_piece number_of at_name_piece single_sign double_sign opening_of enclosed closing_size
lone_mark = refl

-- # begins nothing
number_sign : Row (codes "SELECT FROM #") ((span (Word (codes "SELECT")) 0 6 1) ∷ (span (Word (codes "FROM")) 7 11 1) ∷ []) (fails 12 1 BadUnit)
unfolding lexing_of read_on piece_of piece_by sign_piece comment_piece text_piece name_piece number_piece number_of at_name_piece single_sign double_sign opening_of enclosed closing_size
number_sign = refl

-- line feeds in texts, names and comments count
lines_inside : Row (codes "'" ++ 0x0A ∷ codes "'/*" ++ 0x0A ∷ codes "*/[" ++ 0x0A ∷ codes "]a") ((span (Text (0x0A ∷ [])) 0 3 1) ∷ (span (Quoted (0x0A ∷ [])) 8 11 3) ∷ (span (Word (codes "a")) 11 12 4) ∷ []) None
unfolding lexing_of read_on piece_of piece_by sign_piece comment_piece text_piece name_piece number_piece number_of at_name_piece single_sign double_sign opening_of enclosed closing_size
lines_inside = refl

-- the unit 0 begins nothing
zero_unit : Row (codes "-" ++ 0 ∷ []) ((span (Sign signs.Minus) 0 1 1) ∷ []) (fails 1 1 BadUnit)
unfolding lexing_of read_on piece_of piece_by sign_piece comment_piece text_piece name_piece number_piece number_of at_name_piece single_sign double_sign opening_of enclosed closing_size
zero_unit = refl
