-- Own: reading tokens from left to right; no public clause cites it. A reader takes a value from the
-- front of the bytes and leaves those behind it, or finds none. The code goes the same way with slices,
-- and may run out of memory; that these functions undo the spelling is proved of them.
use Rattle.std.specs.Prelude.{◌≡◌, ℕ, zero, suc, ◌*◌, ◌/◌, ◌%◌, ℤ, pos, Bool, ◌==◌, ◌||◌, ◌&&◌, nat_lt, nat_le, if◌then◌else◌, List, [], ◌∷◌, length, take, drop, slice_get, Option, Some, None, Result, Ok, Err}
use Rattle.std.specs.Option.{option_and_then, option_or}
use Rattle.std.specs.Str.{bytes_eq}
use Rattle.std.specs.Int.{Width, w16, w32, w64, byte_len, from_le_bytes, from_be_bytes, cast_signed}
use Rattle.value_types.specs.declared.sql_type.SqlType.{SqlType}
use Rattle.value_types.specs.declared.sql_type.SqlType.TheVariants.{TinyInt, SmallInt, Int, BigInt, Bit as BitType, NText}
use Rattle.value_types.specs.declared.value.Value.{Value}
use Rattle.value_types.specs.declared.value.Value.TheVariants.{Null, Whole, Bit, Text}
use Rattle.value_types.specs.Units.{units_of}
use Rattle.tds_tokens.specs.declared.fault.ReadFault.{ReadFault}
use Rattle.tds_tokens.specs.declared.fault.ReadFault.TheVariants as faults
use Rattle.tds_tokens.specs.declared.notice.Notice.{Notice}
use Rattle.tds_tokens.specs.declared.columns.ColumnInfo.{ColumnInfo}
use Rattle.tds_tokens.specs.declared.token.DoneKind.{DoneKind}
use Rattle.tds_tokens.specs.declared.token.DoneKind.TheVariants.{Done, Proc, InProc}
use Rattle.tds_tokens.specs.declared.token.Token.{Token}
use Rattle.tds_tokens.specs.declared.token.Token.TheVariants.{LoginAck, Error, Info, EnvText, EnvBytes, Columns, Row, ReturnStatus, ReturnValue, Finished}
use Rattle.tds_tokens.specs.declared.reading.tag.Tag.{Tag}
use Rattle.tds_tokens.specs.declared.reading.tag.Tag.TheVariants as kinds
use Rattle.tds_tokens.specs.Spelling.{b_varchar, server_name, collation, nvarchartype, type_info, value_bytes, column_start, return_value_start, sql_tsql, columns_after}
use Rattle.tds_tokens.specs.Numbers.{returnstatus_tag, returnvalue_tag, colmetadata_tag, error_tag, info_tag, loginack_tag, row_tag, envchange_tag, done_tag, env_database, env_packet_size, env_collation, env_rollback}

-- a function of the code failed as reading does, unless memory ran out
abbrev pub Fails : {Y : Type 0} → ReadFault → Option Y → Type 0
Fails faults.Absent read = read ≡ None
Fails faults.Memory read = Unit {0}

-- a function of the code returned what reading gives, seen by `view`, unless memory ran out
abbrev pub Gives : {X Y : Type 0} → (X → Y) → Result X ReadFault → Option Y → Type 0
Gives view (Ok x) read = read ≡ Some (view x)
Gives view (Err fault) read = Fails fault read

infixl 10 ◌>>=◌
-- the first, and then what the second makes of it
abbrev pub ◌>>=◌ : {A B : Type 0} → Option A → (A → Option B) → Option B
x >>= f = option_and_then f x

-- ---- readers from readers

-- one value and then another
abbrev pub both : {A B : Type 0} → (List ℕ → Option (A × List ℕ)) → (List ℕ → Option (B × List ℕ)) → List ℕ → Option ((A × B) × List ℕ)
both first second bytes = first bytes >>= λ a. second a.1 >>= λ b. Some ((a.0, b.0), b.1)

-- what is made of a value
abbrev pub made : {A B : Type 0} → (A → B) → (List ℕ → Option (A × List ℕ)) → List ℕ → Option (B × List ℕ)
made make read bytes = read bytes >>= λ a. Some (make a.0, a.1)

-- a value that passes the test
abbrev pub only : {A : Type 0} → (A → Bool) → (List ℕ → Option (A × List ℕ)) → List ℕ → Option (A × List ℕ)
only test read bytes = read bytes >>= λ a. if test a.0 then Some a else None

-- a number, and what it counts
abbrev pub counted : {A : Type 0} → (List ℕ → Option (ℕ × List ℕ)) → (ℕ → List ℕ → Option (A × List ℕ)) → List ℕ → Option (A × List ℕ)
counted count items bytes = count bytes >>= λ n. items n.0 n.1

-- the bytes behind a text that they begin with
unfoldable pub strip : List ℕ → List ℕ → Option (List ℕ)
strip text bytes = if bytes_eq (take (length text) bytes) text then Some (drop (length text) bytes) else None

-- a text, and then a value
abbrev pub behind : {A : Type 0} → List ℕ → (List ℕ → Option (A × List ℕ)) → List ℕ → Option (A × List ℕ)
behind text read bytes = strip text bytes >>= read

-- a value, and then a text
abbrev pub before : {A : Type 0} → List ℕ → (List ℕ → Option (A × List ℕ)) → List ℕ → Option (A × List ℕ)
before text read bytes = read bytes >>= λ a. strip text a.1 >>= λ rest. Some (a.0, rest)

-- ---- numbers and texts

-- a byte
unfoldable pub byte_at : List ℕ → Option (ℕ × List ℕ)
byte_at [] = None
byte_at (byte ∷ bytes) = Some (byte, bytes)

-- a number, its lowest byte first
unfoldable pub number_at : Width → List ℕ → Option (ℕ × List ℕ)
number_at width bytes = if nat_lt (length bytes) (byte_len width) then None else Some (from_le_bytes width (take (byte_len width) bytes), drop (byte_len width) bytes)

-- a number of four bytes, its highest byte first
unfoldable pub big_number_at : List ℕ → Option (ℕ × List ℕ)
big_number_at bytes = if nat_lt (length bytes) 4 then None else Some (from_be_bytes w32 (take 4 bytes), drop 4 bytes)

-- so many bytes
unfoldable pub bytes_at : ℕ → List ℕ → Option (List ℕ × List ℕ)
bytes_at count bytes = if nat_lt (length bytes) count then None else Some (take count bytes, drop count bytes)

-- so many units
abbrev pub units_at : ℕ → List ℕ → Option (List ℕ × List ℕ)
units_at count bytes = made units_of (bytes_at (2 * count)) bytes

-- bytes behind a count of one byte
unfoldable pub b_varbyte_at : List ℕ → Option (List ℕ × List ℕ)
b_varbyte_at bytes = counted byte_at bytes_at bytes

-- units behind a count of one byte
unfoldable pub b_varchar_at : List ℕ → Option (List ℕ × List ℕ)
b_varchar_at bytes = counted byte_at units_at bytes

-- units behind a count of two bytes
unfoldable pub us_varchar_at : List ℕ → Option (List ℕ × List ℕ)
us_varchar_at bytes = counted (number_at w16) units_at bytes

-- a signed number in two's complement, its lowest byte first
unfoldable pub signed_at : Width → List ℕ → Option (ℤ × List ℕ)
signed_at width bytes = made (cast_signed width) (number_at width) bytes

-- half of an even number of two bytes
unfoldable pub half_at : List ℕ → Option (ℕ × List ℕ)
half_at bytes = made (λ n. n / 2) (only (λ n. n % 2 == 0) (number_at w16)) bytes

-- ---- types and columns

-- the type, where its description stands there
abbrev pub this_type_at : SqlType → List ℕ → Option (SqlType × List ℕ)
this_type_at kind bytes = strip (type_info kind) bytes >>= λ rest. Some (kind, rest)

-- the type of texts, with the size that it gives and the collation of every text
unfoldable pub text_type_at : List ℕ → Option (SqlType × List ℕ)
text_type_at bytes = made NText (before collation (behind (nvarchartype ∷ []) half_at)) bytes

-- a type: the first whose description stands there
unfoldable pub type_at : List ℕ → Option (SqlType × List ℕ)
type_at bytes =
    option_or (this_type_at TinyInt bytes)
    (option_or (this_type_at SmallInt bytes)
    (option_or (this_type_at Int bytes)
    (option_or (this_type_at BigInt bytes)
    (option_or (this_type_at BitType bytes)
    (text_type_at bytes)))))

-- a column: what stands before its type, the type and the name
unfoldable pub column_at : List ℕ → Option (ColumnInfo × List ℕ)
column_at bytes = made (λ p. record { kind = p.0; name = p.1 }) (behind column_start (both type_at b_varchar_at)) bytes

-- so many values one after another
abbrev pub times : {A : Type 0} → ℕ → (List ℕ → Option (A × List ℕ)) → List ℕ → Option (List A × List ℕ)
times zero read bytes = Some ([], bytes)
times (suc n) read bytes = read bytes >>= λ first. times n read first.1 >>= λ others. Some (first.0 ∷ others.0, others.1)

-- columns behind their count
unfoldable pub columns_at : List ℕ → Option (List ColumnInfo × List ℕ)
columns_at bytes = counted (number_at w16) (λ n. times n column_at) bytes

-- ---- values

-- a bit, as a byte that is 0 or 1
unfoldable pub bit_at : List ℕ → Option (Bool × List ℕ)
bit_at bytes = made (λ byte. byte == 1) (only (λ byte. nat_lt byte 2) byte_at) bytes

-- a text of at most so many units, behind its length in bytes
unfoldable pub text_at : ℕ → List ℕ → Option (List ℕ × List ℕ)
text_at size bytes = counted (only (λ count. nat_le count size) half_at) units_at bytes

-- a value of the type that is not NULL
unfoldable pub filled_at : SqlType → List ℕ → Option (Value × List ℕ)
filled_at TinyInt bytes = made (λ number. Whole (pos number)) (behind (1 ∷ []) byte_at) bytes
filled_at SmallInt bytes = made Whole (behind (2 ∷ []) (signed_at w16)) bytes
filled_at Int bytes = made Whole (behind (4 ∷ []) (signed_at w32)) bytes
filled_at BigInt bytes = made Whole (behind (8 ∷ []) (signed_at w64)) bytes
filled_at BitType bytes = made Bit (behind (1 ∷ []) bit_at) bytes
filled_at (NText size) bytes = made Text (text_at size) bytes

-- a value of the type: NULL, or one that is not
unfoldable pub value_at : SqlType → List ℕ → Option (Value × List ℕ)
value_at kind bytes = option_or (strip (value_bytes kind Null) bytes >>= λ rest. Some (Null, rest)) (filled_at kind bytes)

-- a value for each column
abbrev pub values_at : List ColumnInfo → List ℕ → Option (List Value × List ℕ)
values_at [] bytes = Some ([], bytes)
values_at (column ∷ columns) bytes = value_at column.kind bytes >>= λ first. values_at columns first.1 >>= λ others. Some (first.0 ∷ others.0, others.1)

-- a type, and a value of it
unfoldable pub typed_at : List ℕ → Option ((SqlType × Value) × List ℕ)
typed_at bytes = type_at bytes >>= λ kind. value_at kind.0 kind.1 >>= λ value. Some ((kind.0, value.0), value.1)

-- ---- tokens

-- what stands behind a length of two bytes, all of it
unfoldable pub body_at : List ℕ → Option (List ℕ × List ℕ)
body_at bytes = counted (number_at w16) bytes_at bytes

-- a value behind which nothing is left of its body
abbrev pub at_end : {A : Type 0} → A → List ℕ → List ℕ → Option (A × List ℕ)
at_end x left rest = if length left == 0 then Some (x, rest) else None

-- a value that fills the body behind a length
abbrev pub framed : {A : Type 0} → (List ℕ → Option (A × List ℕ)) → List ℕ → Option (A × List ℕ)
framed read bytes = body_at bytes >>= λ body. read body.0 >>= λ x. at_end x.0 x.1 body.1

-- LOGINACK: the interface, the version, the program's name and its release
unfoldable pub login_ack_at : List ℕ → Option (Token × List ℕ)
login_ack_at bytes = made (λ p. LoginAck p.0 p.1.0 p.1.1) (behind (sql_tsql ∷ []) (both big_number_at (both b_varchar_at big_number_at))) bytes

-- a notice's text, and behind the server's name the procedure and the line
unfoldable pub said_at : List ℕ → Option ((List ℕ × (List ℕ × ℤ)) × List ℕ)
said_at bytes = both us_varchar_at (behind (b_varchar server_name) (both b_varchar_at (signed_at w32))) bytes

-- ERROR or INFO: number, state and class, and what is said
unfoldable pub notice_at : List ℕ → Option (Notice × List ℕ)
notice_at bytes =
    made (λ p. record { number = p.0; state = p.1.0; class = p.1.1.0; text = p.1.1.1.0; procedure = p.1.1.1.1.0; line = p.1.1.1.1.1 })
    (both (signed_at w32) (both byte_at (both byte_at said_at)))
    bytes

-- an environment change behind its kind
unfoldable pub env_of : ℕ → List ℕ → Option (Token × List ℕ)
env_of kind bytes =
    if kind == env_database || kind == env_packet_size then made (λ p. EnvText kind p.0 p.1) (both b_varchar_at b_varchar_at) bytes
    else if nat_le env_collation kind && nat_le kind env_rollback then made (λ p. EnvBytes kind p.0 p.1) (both b_varbyte_at b_varbyte_at) bytes
    else None

-- ENVCHANGE: its kind and the two values
unfoldable pub env_at : List ℕ → Option (Token × List ℕ)
env_at bytes = byte_at bytes >>= λ kind. env_of kind.0 kind.1

-- DONE, DONEPROC or DONEINPROC: status, command and count
unfoldable pub finished_at : DoneKind → List ℕ → Option (Token × List ℕ)
finished_at kind bytes = made (λ p. Finished kind p.0 p.1.0 p.1.1) (both (number_at w16) (both (number_at w16) (number_at w64))) bytes

-- RETURNVALUE: the parameter's place and name, and behind its start the type and the value
unfoldable pub return_value_at : List ℕ → Option (Token × List ℕ)
return_value_at bytes =
    made (λ p. ReturnValue p.0 p.1.0 p.1.1.0 p.1.1.1) (both (number_at w16) (both b_varchar_at (behind return_value_start typed_at))) bytes

-- the kinds of tokens
abbrev pub tags : List Tag
tags =
    kinds.ReturnStatus
    ∷ kinds.ReturnValue
    ∷ kinds.Columns
    ∷ kinds.Error
    ∷ kinds.Info
    ∷ kinds.LoginAck
    ∷ kinds.Row
    ∷ kinds.Env
    ∷ kinds.Finished Done
    ∷ kinds.Finished Proc
    ∷ kinds.Finished InProc
    ∷ []

-- the byte with which a token of the kind begins
abbrev pub tag_byte : Tag → ℕ
tag_byte kinds.ReturnStatus = returnstatus_tag
tag_byte kinds.ReturnValue = returnvalue_tag
tag_byte kinds.Columns = colmetadata_tag
tag_byte kinds.Error = error_tag
tag_byte kinds.Info = info_tag
tag_byte kinds.LoginAck = loginack_tag
tag_byte kinds.Row = row_tag
tag_byte kinds.Env = envchange_tag
tag_byte (kinds.Finished kind) = done_tag kind

-- the first of them that the byte begins
abbrev pub look_up : ℕ → List Tag → Option Tag
look_up byte [] = None
look_up byte (tag ∷ tags) = if byte == tag_byte tag then Some tag else look_up byte tags

-- the tag with which the bytes begin
unfoldable pub tag_at : List ℕ → Option (Tag × List ℕ)
tag_at bytes = byte_at bytes >>= λ first. look_up first.0 tags >>= λ tag. Some (tag, first.1)

-- what stands behind a token's tag
unfoldable pub tagged_at : List ColumnInfo → Tag → List ℕ → Option (Token × List ℕ)
tagged_at columns kinds.LoginAck bytes = framed login_ack_at bytes
tagged_at columns kinds.Error bytes = made Error (framed notice_at) bytes
tagged_at columns kinds.Info bytes = made Info (framed notice_at) bytes
tagged_at columns kinds.Env bytes = framed env_at bytes
tagged_at columns kinds.Columns bytes = made Columns columns_at bytes
tagged_at columns kinds.Row bytes = made Row (values_at columns) bytes
tagged_at columns kinds.ReturnStatus bytes = made ReturnStatus (signed_at w32) bytes
tagged_at columns kinds.ReturnValue bytes = return_value_at bytes
tagged_at columns (kinds.Finished kind) bytes = finished_at kind bytes

-- a token, where the latest columns before it are these
unfoldable pub token_at : List ColumnInfo → List ℕ → Option (Token × List ℕ)
token_at columns bytes = tag_at bytes >>= λ tag. tagged_at columns tag.0 tag.1

-- ---- where the latest columns stand among the tokens

-- the columns that a token describes, where there is one
abbrev pub columns_in : Option Token → List ColumnInfo
columns_in None = []
columns_in (Some token) = columns_after [] token

-- the columns that the token at a place describes
abbrev pub columns_of_place : List Token → Option ℕ → List ColumnInfo
columns_of_place tokens None = []
columns_of_place tokens (Some place) = columns_in (slice_get tokens place)

-- the place behind one more token, which stands at next
abbrev pub place_after : Token → ℕ → Option ℕ → Option ℕ
place_after (Columns described) next place = Some next
place_after _ next place = place
