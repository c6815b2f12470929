-- [MS-TDS] 2.2.5 and 2.2.7, as far as fields have a width: which tokens have a spelling. Each count
-- fits its field, and each row its columns. It is said of a whole token; the code that writes tests
-- none of it, and requires it of all tokens.
use Rattle.std.specs.Prelude.{◌≡◌, ◌*◌, ◌^◌, ◌<◌, ◌≤◌, ◌≤ℤ◌, ◌⊎◌, pos, List, [], ◌∷◌, length, All, FitsSigned}
use Rattle.std.specs.Int.{w16, w32, w64}
use Rattle.value_types.specs.declared.sql_type.SqlType.{SqlType}
use Rattle.value_types.specs.declared.sql_type.SqlType.TheVariants.{TinyInt, SmallInt, Int, BigInt, Bit as BitType, NText}
use Rattle.value_types.specs.declared.value.Value.{Value}
use Rattle.value_types.specs.declared.value.Value.TheVariants.{Null, Whole, Bit, Text}
use Rattle.tds_tokens.specs.declared.notice.Notice.{Notice}
use Rattle.tds_tokens.specs.declared.columns.ColumnInfo.{ColumnInfo}
use Rattle.tds_tokens.specs.declared.token.Token.{Token}
use Rattle.tds_tokens.specs.declared.token.Token.TheVariants.{LoginAck, Error, Info, EnvText, EnvBytes, Columns, Row, ReturnStatus, ReturnValue, Finished}
use Rattle.tds_tokens.specs.Numbers.{env_database, env_packet_size, env_collation, env_rollback}
use Rattle.tds_tokens.specs.Spelling.{notice_bytes, columns_after}

-- the value is of the type, and the size of a text in bytes fits its field
abbrev pub FitsType : SqlType → Value → Type 0
FitsType kind Null = Unit {0}
FitsType TinyInt (Whole number) = (pos 0 ≤ℤ number) × (number ≤ℤ pos 255)
FitsType SmallInt (Whole number) = FitsSigned w16 number
FitsType Int (Whole number) = FitsSigned w32 number
FitsType BigInt (Whole number) = FitsSigned w64 number
FitsType BitType (Bit bit) = Unit {0}
FitsType (NText size) (Text units) = (length units ≤ size) × (2 * length units < 2 ^ 16)
FitsType kind value = ⊥

-- one value for each column, of the column's type
abbrev pub FitsColumns : List ColumnInfo → List Value → Type 0
FitsColumns [] [] = Unit {0}
FitsColumns [] (value ∷ values) = ⊥
FitsColumns (column ∷ columns) [] = ⊥
FitsColumns (column ∷ columns) (value ∷ values) = FitsType column.kind value × FitsColumns columns values

-- the size of a text in bytes fits its field
abbrev pub FitsKind : SqlType → Type 0
FitsKind (NText size) = 2 * size < 2 ^ 16
FitsKind kind = Unit {0}

-- the text, the procedure's name and the whole fit their counts
pub record FitsNotice (notice : Notice) : Type 0 where
  pub text : length notice.text < 2 ^ 16
  pub procedure : length notice.procedure < 2 ^ 8
  pub whole : length (notice_bytes notice) < 2 ^ 16

-- the token has a spelling where the latest COLMETADATA before it described these columns
abbrev pub FitsToken : List ColumnInfo → Token → Type 0
FitsToken columns (LoginAck version program release) = length program < 2 ^ 8
FitsToken columns (Error notice) = FitsNotice notice
FitsToken columns (Info notice) = FitsNotice notice
FitsToken columns (EnvText kind fresh former) = ((kind ≡ env_database) ⊎ (kind ≡ env_packet_size)) × (length fresh < 2 ^ 8) × (length former < 2 ^ 8)
FitsToken columns (EnvBytes kind fresh former) = (env_collation ≤ kind) × (kind ≤ env_rollback) × (length fresh < 2 ^ 8) × (length former < 2 ^ 8)
FitsToken columns (ReturnStatus status) = Unit {0}
FitsToken columns (ReturnValue ordinal name kind value) = (length name < 2 ^ 8) × FitsKind kind × FitsType kind value
FitsToken columns (Columns described) = (length described < 2 ^ 16) × All (λ column. FitsKind column.kind × (length column.name < 2 ^ 8)) described
FitsToken columns (Row values) = FitsColumns columns values
FitsToken columns (Finished kind status command rows) = Unit {0}

-- each token has a spelling, one after another
unfoldable pub FitTokens : List ColumnInfo → List Token → Type 0
FitTokens columns [] = Unit {0}
FitTokens columns (token ∷ tokens) = FitsToken columns token × FitTokens (columns_after columns token) tokens
