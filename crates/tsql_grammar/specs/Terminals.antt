-- Own: the lexemes of a text as the grammar takes them. The kind of a semicolon depends on the lexeme
-- behind it; every other lexeme has its kind by itself.
use Rattle.std.specs.Prelude.{ℕ, ◌&&◌, not, Bool, true, false, List, [], ◌∷◌, ℤ, pos, nat_abs, min}
use Rattle.tsql_lexer.specs.declared.lexeme.Spanned.{Spanned}
use Rattle.tsql_lexer.specs.declared.lexeme.Lexeme.{Lexeme}
use Rattle.tsql_lexer.specs.declared.lexeme.Lexeme.TheVariants as x
use Rattle.tsql_lexer.specs.declared.lexeme.Sign.TheVariants as s
use Rattle.tsql_grammar.specs.declared.kind.Kind.{Kind}
use Rattle.tsql_grammar.specs.declared.kind.Kind.TheVariants as k
use Rattle.tsql_grammar.specs.declared.rule.Class.{Class}
use Rattle.tsql_grammar.specs.declared.rule.Class.TheVariants as c
use Rattle.tsql_grammar.specs.declared.kind.Reserved.TheVariants as w
use Rattle.tsql_grammar.specs.Kinds.{same_kind, one_of}
use Rattle.tsql_grammar.specs.Words.{kind_of}

-- a lexeme, and whether an ELSE is directly behind it
pub record Terminal : Type 0 where
  pub spanned : Spanned
  pub before_else : Bool

-- a semicolon with ELSE directly behind it is a kind of its own
abbrev pub kind_before : Bool → Kind → Kind
kind_before true (k.Sign s.Semicolon) = k.BeforeElse
kind_before b a = a

abbrev pub kind : Terminal → Kind
kind t = kind_before t.before_else (kind_of t.spanned.lexeme)

abbrev pub begins_else : List Spanned → Bool
begins_else [] = false
begins_else (l ∷ more) = same_kind (kind_of l.lexeme) (k.Reserved w.Else)

-- the lexemes of a text as the grammar takes them
abbrev pub terminals : List Spanned → List Terminal
terminals [] = []
terminals (l ∷ more) = record { spanned = l; before_else = begins_else more } ∷ terminals more

-- a name, or a word that is one where the grammar has no other use for it
abbrev pub is_name : Kind → Bool
is_name k.Name = true
is_name k.Dbo = true
is_name (k.Fixed a) = true
is_name (k.Function a) = true
is_name (k.Word a) = true
is_name _ = false

-- the same but for the names of functions
abbrev pub is_plain_name : Kind → Bool
is_plain_name k.Name = true
is_plain_name k.Dbo = true
is_plain_name (k.Fixed a) = true
is_plain_name (k.Word a) = true
is_plain_name _ = false

-- the kind is of the class
abbrev pub admits : Class → Kind → Bool
admits (c.One a) b = same_kind a b
admits c.Name b = is_name b
admits c.OtherName b = is_name b && not (same_kind k.Dbo b)
admits c.PlainName b = is_plain_name b
admits c.Semicolon b = one_of (k.Sign s.Semicolon ∷ k.BeforeElse ∷ []) b

-- the units that a lexeme holds: of a name, a variable or a text
abbrev pub units_of : Lexeme → List ℕ
units_of (x.Word u) = u
units_of (x.Quoted u) = u
units_of (x.Variable u) = u
units_of (x.SystemName u) = u
units_of (x.Text u) = u
units_of (x.Number n) = []
units_of (x.Sign a) = []

-- the number that a lexeme is
abbrev pub number_of : Lexeme → ℤ
number_of (x.Number n) = n
number_of _ = pos 0

-- what a lexeme of the text stands for: its units, its number, its line
abbrev pub units : Terminal → List ℕ
units t = units_of t.spanned.lexeme

abbrev pub number : Terminal → ℤ
number t = number_of t.spanned.lexeme

abbrev pub line : Terminal → ℕ
line t = t.spanned.line

-- the size of an NVARCHAR; above 65,535 it is kept as 65,535
abbrev pub size : Terminal → ℕ
size t = min (nat_abs (number t)) 65535
