-- How many bytes the parts of tokens have.
use Rattle.std.proofs.Common.{◌≡◌, ℕ, ◌+◌, ◌*◌, List, [], ◌∷◌, ◌++◌, length, refl, length-append, arith}
use Rattle.std.specs.Int.{w16, w32, to_le_bytes, to_be_bytes}
use Rattle.value_types.specs.Units.{le_bytes_of}
use Rattle.value_types.specs.declared.sql_type.SqlType.{SqlType}
use Rattle.value_types.specs.declared.sql_type.SqlType.TheVariants.{TinyInt, SmallInt, Int, BigInt, Bit as BitType, NText}
use Rattle.value_types.specs.declared.value.Value.{Value}
use Rattle.value_types.specs.declared.value.Value.TheVariants.{Text}
use Rattle.tds_tokens.specs.declared.columns.ColumnInfo.{ColumnInfo}
use Rattle.tds_tokens.specs.declared.notice.Notice.{Notice}
use Rattle.tds_tokens.specs.declared.token.Token.TheVariants.{LoginAck, EnvText}
use Rattle.tds_tokens.specs.Spelling.{b_varchar, type_info, value_bytes, return_value_bytes, column_bytes, notice_bytes, token_bytes}
use Rattle.tds_tokens.specs.Fit.{FitsType}

-- a unit has two bytes
pub length-le_bytes_of : (units : List ℕ) → length (le_bytes_of units) ≡ 2 * length units
length-le_bytes_of [] = refl
length-le_bytes_of (unit ∷ units) = omega (arith, length-le_bytes_of units)

length_with_type : (kind : SqlType) (name : List ℕ) → length (to_le_bytes w32 0 ++ to_le_bytes w16 1 ++ type_info kind ++ b_varchar name) ≡ 7 + length (type_info kind) + 2 * length name
length_with_type kind name =
    omega (arith, length-append (type_info kind) (b_varchar name), length-le_bytes_of name)

pub length-column_bytes : (column : ColumnInfo) → length (column_bytes column) ≡ 7 + length (type_info column.kind) + 2 * length column.name
length-column_bytes column = length_with_type column.kind column.name

pub length-notice_bytes : (notice : Notice) → length (notice_bytes notice) ≡ 24 + 2 * length notice.text + 2 * length notice.procedure
length-notice_bytes notice =
    simp length-append (omega (arith, length-le_bytes_of notice.text, length-le_bytes_of notice.procedure))

pub length-login_ack : (columns : List ColumnInfo) (version : ℕ) (program : List ℕ) (release : ℕ) → length (token_bytes columns (LoginAck version program release)) ≡ 13 + 2 * length program
length-login_ack columns version program release =
    omega (arith, length-append (le_bytes_of program) (to_be_bytes w32 release), length-le_bytes_of program)

pub length-env_text : (columns : List ColumnInfo) (kind : ℕ) (fresh former : List ℕ) → length (token_bytes columns (EnvText kind fresh former)) ≡ 6 + 2 * length fresh + 2 * length former
length-env_text columns kind fresh former =
    omega (arith, length-append (le_bytes_of fresh) (b_varchar former), length-le_bytes_of fresh, length-le_bytes_of former)

pub length-return_value : (ordinal : ℕ) (name : List ℕ) (kind : SqlType) (value : Value)
    → length (return_value_bytes ordinal name kind value) ≡ 10 + 2 * length name + length (type_info kind) + length (value_bytes kind value)
length-return_value ordinal name kind value = simp length-append (omega (arith, length-le_bytes_of name))

pub length-text : (kind : SqlType) (units : List ℕ) → FitsType kind (Text units) → length (value_bytes kind (Text units)) ≡ 2 + 2 * length units
length-text TinyInt units fits = absurd fits
length-text SmallInt units fits = absurd fits
length-text Int units fits = absurd fits
length-text BigInt units fits = absurd fits
length-text BitType units fits = absurd fits
length-text (NText size) units fits = omega (arith, length-le_bytes_of units)
