-- [MS-TDS] 2.2.7: the bytes of each token that a server sends. One case a token; the code appends
-- to a buffer instead.
use Rattle.std.specs.Prelude.{ℕ, ◌*◌, ℤ, if◌then◌else◌, List, [], ◌∷◌, ◌++◌, length, codes}
use Rattle.std.specs.List.{flat_map}
use Rattle.std.specs.Int.{Width, w8, w16, w32, w64, byte_len, to_le_bytes, to_be_bytes, cast_unsigned}
use Rattle.value_types.specs.declared.sql_type.SqlType.{SqlType}
use Rattle.value_types.specs.declared.sql_type.SqlType.TheVariants.{TinyInt, SmallInt, Int, BigInt, Bit as BitType, NText}
use Rattle.value_types.specs.declared.value.Value.{Value}
use Rattle.value_types.specs.declared.value.Value.TheVariants.{Null, Whole, Bit, Text}
use Rattle.value_types.specs.Units.{le_bytes_of}
use Rattle.tds_tokens.specs.declared.notice.Notice.{Notice}
use Rattle.tds_tokens.specs.declared.columns.ColumnInfo.{ColumnInfo}
use Rattle.tds_tokens.specs.declared.token.Token.{Token}
use Rattle.tds_tokens.specs.declared.token.Token.TheVariants.{LoginAck, Error, Info, EnvText, EnvBytes, Columns, Row, ReturnStatus, ReturnValue, Finished}
use Rattle.tds_tokens.specs.Numbers.{returnstatus_tag, returnvalue_tag, output_parameter, colmetadata_tag, error_tag, info_tag, loginack_tag, row_tag, envchange_tag, done_tag}

-- B_VARCHAR (2.2.5.2.2): a count of units in one byte, and the units
abbrev pub b_varchar : List ℕ → List ℕ
b_varchar units = length units ∷ le_bytes_of units

-- US_VARCHAR (2.2.5.2.2): a count of units in two bytes, and the units
abbrev pub us_varchar : List ℕ → List ℕ
us_varchar units = to_le_bytes w16 (length units) ++ le_bytes_of units

-- a length of two bytes, and as many bytes
abbrev pub with_length : List ℕ → List ℕ
with_length body = to_le_bytes w16 (length body) ++ body

-- the name that the server gives itself
abbrev pub server_name : List ℕ
server_name = codes "tsqld"

-- the collation that every text has: LCID 0x0409, fBinary2, which compares by code points, version 0, SortId 0 (2.2.5.1.2)
abbrev pub collation : List ℕ
collation = 0x09 ∷ 0x04 ∷ 0x00 ∷ 0x02 ∷ 0x00 ∷ []

-- the type of whole numbers (2.2.5.4.2)
abbrev pub intntype : ℕ
intntype = 0x26

-- the type of bits
abbrev pub bitntype : ℕ
bitntype = 0x68

-- the type of texts
abbrev pub nvarchartype : ℕ
nvarchartype = 0xE7

-- TYPE_INFO (2.2.5.6): the type, the size in bytes, and a text's collation
abbrev pub type_info : SqlType → List ℕ
type_info TinyInt = intntype ∷ 1 ∷ []
type_info SmallInt = intntype ∷ 2 ∷ []
type_info Int = intntype ∷ 4 ∷ []
type_info BigInt = intntype ∷ 8 ∷ []
type_info BitType = bitntype ∷ 1 ∷ []
type_info (NText size) = nvarchartype ∷ to_le_bytes w16 (2 * size) ++ collation

-- a number behind its length, in two's complement
abbrev pub int_bytes : Width → ℤ → List ℕ
int_bytes width number = byte_len width ∷ to_le_bytes width (cast_unsigned width number)

-- a value as its column's type has it; a value of another type has no bytes
abbrev pub value_bytes : SqlType → Value → List ℕ
value_bytes (NText size) Null = 0xFF ∷ 0xFF ∷ []
value_bytes kind Null = 0 ∷ []
value_bytes TinyInt (Whole number) = int_bytes w8 number
value_bytes SmallInt (Whole number) = int_bytes w16 number
value_bytes Int (Whole number) = int_bytes w32 number
value_bytes BigInt (Whole number) = int_bytes w64 number
value_bytes BitType (Bit bit) = 1 ∷ (if bit then 1 else 0) ∷ []
value_bytes (NText size) (Text units) = to_le_bytes w16 (2 * length units) ++ le_bytes_of units
value_bytes kind value = []

-- the values of a row, each as its column has it
abbrev pub row_bytes : List ColumnInfo → List Value → List ℕ
row_bytes [] values = []
row_bytes (column ∷ columns) [] = []
row_bytes (column ∷ columns) (value ∷ values) = value_bytes column.kind value ++ row_bytes columns values

-- what stands before a column's type: user type 0 and the flag fNullable
abbrev pub column_start : List ℕ
column_start = 0 ∷ 0 ∷ 0 ∷ 0 ∷ 1 ∷ 0 ∷ []

-- ColumnData (2.2.7.4): its start, the type and the name
abbrev pub column_bytes : ColumnInfo → List ℕ
column_bytes column = column_start ++ type_info column.kind ++ b_varchar column.name

-- what stands before the type of a returned value: that it is an OUTPUT parameter's, and what stands before a column's
abbrev pub return_value_start : List ℕ
return_value_start = output_parameter ∷ column_start

-- RETURNVALUE (2.2.7.19) behind its tag: the parameter's place and name, its start, the type and the value
abbrev pub return_value_bytes : ℕ → List ℕ → SqlType → Value → List ℕ
return_value_bytes ordinal name kind value =
    to_le_bytes w16 ordinal ++ b_varchar name ++ return_value_start ++ type_info kind ++ value_bytes kind value

-- ERROR (2.2.7.10) behind its length: number, state, class, text, server, procedure and line
abbrev pub notice_bytes : Notice → List ℕ
notice_bytes notice = to_le_bytes w32 (cast_unsigned w32 notice.number) ++ (notice.state ∷ notice.class ∷ [])
    ++ us_varchar notice.text ++ b_varchar server_name ++ b_varchar notice.procedure
    ++ to_le_bytes w32 (cast_unsigned w32 notice.line)

-- the interface of LOGINACK: Transact-SQL
abbrev pub sql_tsql : ℕ
sql_tsql = 1

-- LOGINACK (2.2.7.14) behind its length: the interface, the version, the program's name, its release
abbrev pub login_ack_bytes : ℕ → List ℕ → ℕ → List ℕ
login_ack_bytes version program release = sql_tsql ∷ to_be_bytes w32 version ++ b_varchar program ++ to_be_bytes w32 release

-- B_VARBYTE (2.2.5.2.3): a count of bytes in one byte, and the bytes
abbrev pub b_varbyte : List ℕ → List ℕ
b_varbyte bytes = length bytes ∷ bytes

-- a token, where the latest COLMETADATA before it described these columns
abbrev pub token_bytes : List ColumnInfo → Token → List ℕ
token_bytes columns (LoginAck version program release) = loginack_tag ∷ with_length (login_ack_bytes version program release)
token_bytes columns (Error notice) = error_tag ∷ with_length (notice_bytes notice)
token_bytes columns (Info notice) = info_tag ∷ with_length (notice_bytes notice)
token_bytes columns (EnvText kind fresh former) = envchange_tag ∷ with_length (kind ∷ b_varchar fresh ++ b_varchar former)
token_bytes columns (EnvBytes kind fresh former) = envchange_tag ∷ with_length (kind ∷ b_varbyte fresh ++ b_varbyte former)
token_bytes columns (Columns described) = colmetadata_tag ∷ to_le_bytes w16 (length described) ++ flat_map column_bytes described
token_bytes columns (Row values) = row_tag ∷ row_bytes columns values
token_bytes columns (ReturnStatus status) = returnstatus_tag ∷ to_le_bytes w32 (cast_unsigned w32 status)
token_bytes columns (ReturnValue ordinal name kind value) = returnvalue_tag ∷ return_value_bytes ordinal name kind value
token_bytes columns (Finished kind status command rows) =
    done_tag kind ∷ to_le_bytes w16 status ++ to_le_bytes w16 command ++ to_le_bytes w64 rows

-- the columns that rows have after a token
abbrev pub columns_after : List ColumnInfo → Token → List ColumnInfo
columns_after columns (Columns described) = described
columns_after columns _ = columns

-- the tokens one after another, where the latest COLMETADATA before them described these columns
unfoldable pub tokens_bytes : List ColumnInfo → List Token → List ℕ
tokens_bytes columns [] = []
tokens_bytes columns (token ∷ tokens) = token_bytes columns token ++ tokens_bytes (columns_after columns token) tokens

-- a stream of tokens, before which no columns were described
abbrev pub TokenBytes : List Token → List ℕ
TokenBytes tokens = tokens_bytes [] tokens
