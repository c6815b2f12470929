-- Own: which lexemes a text has. It is cut into parts, each a lexeme, a run of blanks or a comment, up to its
-- end or to a place where no part begins: there the lexical rules fail. The code reads from left to right; here
-- the cuts are given, and each part is judged by its own units and those behind it.
use Rattle.std.specs.Prelude.{◌≡◌, ◌⊎◌, ℕ, ◌+◌, ◌==◌, ◌||◌, nat_eq, if◌then◌else◌, IsTrue, List, [], ◌∷◌, ◌++◌, length, slice_index, count_by, Option, None, Some, codes}
use Rattle.std.specs.List.{flat_map, list_all, starts_with}
use Rattle.tsql_lexer.specs.declared.lexeme.Lexeme.{Lexeme}
use Rattle.tsql_lexer.specs.declared.lexeme.Spanned.{Spanned}
use Rattle.tsql_lexer.specs.declared.fault.Flaw.{Flaw}
use Rattle.tsql_lexer.specs.declared.fault.LexKind.{LexKind}
use Rattle.tsql_lexer.specs.declared.fault.LexKind.TheVariants.{OpenText, OpenComment, OpenName, NumberTooBig, BadUnit}
use Rattle.tsql_lexer.specs.Classes.{line_feed, is_blank, is_digit, stays_in_line}
use Rattle.tsql_lexer.specs.Comments.{comment_size}
use Rattle.tsql_lexer.specs.Lexemes.{IsRun, stops, IsLexeme}

-- ---- what stands between lexemes

-- blanks, as many as there are
abbrev pub AreBlanks : List ℕ → List ℕ → Type 0
AreBlanks units behind = IsRun is_blank units × IsTrue (stops is_blank behind)

-- `--` and the units up to the end of the line
abbrev pub IsLineComment : List ℕ → List ℕ → Type 0
IsLineComment units behind = (inside : List ℕ) × (units ≡ codes "--" ++ inside) × IsTrue (list_all stays_in_line inside) × IsTrue (stops stays_in_line behind)

-- `/*` and the units up to the `*/` that closes it
abbrev pub IsComment : List ℕ → Type 0
IsComment units = (inside : List ℕ) × (units ≡ codes "/*" ++ inside) × (comment_size units ≡ Some (length units))

-- ---- the parts of a text

-- a lexeme, or none where blanks or a comment stand, and its units
pub record Part : Type 0 where
  pub lexeme : Option Lexeme
  pub units : List ℕ

-- the units are this, where the others stand behind them
abbrev pub IsPart : Option Lexeme → List ℕ → List ℕ → Type 0
IsPart None units behind = AreBlanks units behind ⊎ (IsLineComment units behind ⊎ IsComment units)
IsPart (Some lexeme) units behind = IsLexeme units behind lexeme

-- the text that parts make, one after another
abbrev pub text_of : List Part → List ℕ
text_of parts = flat_map (λ part. part.units) parts

-- each part is what it is said to be, where this tail stands behind the last
abbrev pub AreParts : List Part → List ℕ → Type 0
AreParts [] tail = Unit {0}
AreParts (part ∷ parts) tail = IsPart part.lexeme part.units (text_of parts ++ tail) × AreParts parts tail

-- no part begins the tail
abbrev pub BeginsNoPart : List ℕ → Type 0
BeginsNoPart tail = (part : Part) (behind : List ℕ) → tail ≡ part.units ++ behind → IsPart part.lexeme part.units behind → ⊥

-- ---- places

-- the line at which the text goes on behind these units: lines end at a line feed and count from 1
abbrev pub line_behind : List ℕ → ℕ
line_behind units = 1 + count_by (λ unit. unit == line_feed) units

-- where a part stands that has these units before it, if it is a lexeme
abbrev pub span_behind : List ℕ → List ℕ → Option Lexeme → List Spanned
span_behind before units None = []
span_behind before units (Some lexeme) = (record { lexeme = lexeme; start = length before; end = length before + length units; line = line_behind before }) ∷ []

-- the lexemes among the parts, with their places, where these units stand before the first part
abbrev pub spans_behind : List ℕ → List Part → List Spanned
spans_behind before [] = []
spans_behind before (part ∷ parts) = span_behind before part.units part.lexeme ++ spans_behind (before ++ part.units) parts

-- ---- where the rules fail

-- what the tail, which no part begins, would have begun
abbrev pub kind_at : List ℕ → LexKind
kind_at tail =
    if starts_with nat_eq tail (codes "/*") then OpenComment
    else if starts_with nat_eq tail (codes "'") || starts_with nat_eq tail (codes "N'") then OpenText
    else if starts_with nat_eq tail (codes "[") || starts_with nat_eq tail (codes "\"") then OpenName
    else if is_digit (slice_index tail 0) then NumberTooBig
    else BadUnit

-- the text ends behind the parts, or the rules fail there
abbrev pub Ends : List ℕ → List ℕ → Option Flaw → Type 0
Ends before [] flaw = flaw ≡ None
Ends before (unit ∷ units) flaw =
    BeginsNoPart (unit ∷ units) × (flaw ≡ Some (record { at = length before; line = line_behind before; kind = kind_at (unit ∷ units) }))

-- The text has these lexemes in front of its first flaw, or to its end where there is none.
pub record Lexes (text : List ℕ) (lexemes : List Spanned) (flaw : Option Flaw) : Type 0 where
  pub parts : List Part
  pub tail : List ℕ
  pub joined : text ≡ text_of parts ++ tail
  pub right : AreParts parts tail
  pub spans : lexemes ≡ spans_behind [] parts
  pub end : Ends (text_of parts) tail flaw
