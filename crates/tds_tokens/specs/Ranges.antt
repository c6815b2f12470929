-- [MS-TDS] 2.2.5.1, the widths of numbers: which tokens there are. Each has a spelling, and each
-- number in it is of its field's width. A law speaks of all numbers, so the widths, which the code's
-- types keep, are said here.
use Rattle.std.specs.Prelude.{◌^◌, ◌<◌, ℕ, List, [], ◌∷◌, All, FitsSigned}
use Rattle.std.specs.Int.{w32}
use Rattle.value_types.specs.declared.value.Value.{Value}
use Rattle.value_types.specs.declared.value.Value.TheVariants.{Null, Whole, Bit, Text}
use Rattle.tds_tokens.specs.declared.notice.Notice.{Notice}
use Rattle.tds_tokens.specs.declared.columns.ColumnInfo.{ColumnInfo}
use Rattle.tds_tokens.specs.declared.token.Token.{Token}
use Rattle.tds_tokens.specs.declared.token.Token.TheVariants.{LoginAck, Error, Info, EnvText, EnvBytes, Columns, Row, ReturnStatus, ReturnValue, Finished}
use Rattle.tds_tokens.specs.Spelling.{columns_after}
use Rattle.tds_tokens.specs.Fit.{FitsToken}

-- units of 16 bits
abbrev pub AreUnits : List ℕ → Type 0
AreUnits units = All (λ unit. unit < 2 ^ 16) units

-- bytes
abbrev pub AreOctets : List ℕ → Type 0
AreOctets bytes = All (λ byte. byte < 2 ^ 8) bytes

-- of a value's numbers a text's units; the others fit its type
abbrev pub HasUnits : Value → Type 0
HasUnits Null = Unit {0}
HasUnits (Whole number) = Unit {0}
HasUnits (Bit bit) = Unit {0}
HasUnits (Text units) = AreUnits units

-- each number of the notice is of its field's width
pub record IsNotice (notice : Notice) : Type 0 where
  pub number : FitsSigned w32 notice.number
  pub state : notice.state < 2 ^ 8
  pub class : notice.class < 2 ^ 8
  pub text : AreUnits notice.text
  pub procedure : AreUnits notice.procedure
  pub line : FitsSigned w32 notice.line

-- each number of the token is of its field's width
abbrev pub IsInRange : Token → Type 0
IsInRange (LoginAck version program release) = (version < 2 ^ 32) × AreUnits program × (release < 2 ^ 32)
IsInRange (Error notice) = IsNotice notice
IsInRange (Info notice) = IsNotice notice
IsInRange (EnvText kind fresh former) = AreUnits fresh × AreUnits former
IsInRange (EnvBytes kind fresh former) = AreOctets fresh × AreOctets former
IsInRange (Columns described) = All (λ column. AreUnits column.name) described
IsInRange (Row values) = All HasUnits values
IsInRange (ReturnStatus status) = FitsSigned w32 status
IsInRange (ReturnValue ordinal name kind value) = (ordinal < 2 ^ 16) × AreUnits name × HasUnits value
IsInRange (Finished kind status command rows) = (status < 2 ^ 16) × (command < 2 ^ 16) × (rows < 2 ^ 64)

-- there is such a token where the latest columns before it are these
abbrev pub IsToken : List ColumnInfo → Token → Type 0
IsToken columns token = FitsToken columns token × IsInRange token

-- there are such tokens, one after another
unfoldable pub AreTokens : List ColumnInfo → List Token → Type 0
AreTokens columns [] = Unit {0}
AreTokens columns (token ∷ tokens) = IsToken columns token × AreTokens (columns_after columns token) tokens
