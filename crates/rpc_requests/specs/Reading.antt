-- [MS-TDS] 2.2.6.6: what a payload says as an RPC request, from left to right. A reader takes a value from the
-- front of the bytes and leaves those behind it, or refuses the first field that it can't take. A refusal
-- tells how many bytes are left where its field begins; `rpc_of` makes the field's offset of it.
-- Not looked at: what stands within the headers, the option flags, other bits of a status, the collation, and
-- which number that is not 0 a bit has.
use Rattle.std.specs.Prelude.{◌≡◌, ℕ, zero, suc, ◌*◌, ◌-◌, ◌/◌, ◌%◌, min, pos, Bool, not, ◌==◌, ◌||◌, nat_lt, if◌then◌else◌, List, [], ◌∷◌, length, take, drop, slice_index, Option, Some, None, Result, Ok, Err}
use Rattle.std.specs.List.{list_all}
use Rattle.std.specs.Int.{w16, w32, w64, from_le_bytes, cast_signed}
use Rattle.byteorder.specs.Endian.{little_number}
use Rattle.value_types.specs.declared.sql_type.SqlType.{SqlType}
use Rattle.value_types.specs.declared.sql_type.SqlType.TheVariants.{TinyInt, SmallInt, Int, BigInt, Bit as BitType, NText}
use Rattle.value_types.specs.declared.value.Value.{Value}
use Rattle.value_types.specs.declared.value.Value.TheVariants.{Null, Whole, Bit, Text}
use Rattle.value_types.specs.Units.{units_of}
use Rattle.rpc_requests.specs.declared.call.RpcCall.{RpcCall}
use Rattle.rpc_requests.specs.declared.call.RpcParameter.{RpcParameter}
use Rattle.rpc_requests.specs.declared.call.RpcTarget.{RpcTarget}
use Rattle.rpc_requests.specs.declared.call.RpcTarget.TheVariants.{Named, ExecuteSql}
use Rattle.rpc_requests.specs.declared.fault.Refusal.{Refusal}
use Rattle.rpc_requests.specs.declared.fault.ReadFault.{ReadFault}
use Rattle.rpc_requests.specs.declared.fault.ReadFault.TheVariants as faults
use Rattle.rpc_requests.specs.declared.fault.RpcFault.{RpcFault}
use Rattle.rpc_requests.specs.declared.fault.RpcFault.TheVariants.{Bad, Memory}
use Rattle.rpc_requests.specs.declared.fault.RpcKind.{RpcKind}
use Rattle.rpc_requests.specs.declared.fault.RpcKind.TheVariants as kinds
use Rattle.rpc_requests.specs.declared.types.Form.{Form}
use Rattle.rpc_requests.specs.declared.types.Form.TheVariants.{Number, Units, Bytes}
use Rattle.tds_tokens.specs.Spelling.{intntype, bitntype, nvarchartype}
use Rattle.rpc_requests.specs.Spelling.{bigvarchartype, charbin_null, by_number, sp_executesql}
use Rattle.rpc_requests.specs.Fit.{name_limit, text_limit}

infixl 10 ◌>>=◌
-- the first, and then what the second makes of it
abbrev pub ◌>>=◌ : {A B : Type 0} → Result A Refusal → (A → Result B Refusal) → Result B Refusal
(Ok x) >>= f = f x
(Err refusal) >>= f = Err refusal

-- a function of the code failed as reading does, unless memory ran out
abbrev pub Fails : {Y : Type 0} → ReadFault → Result Y Refusal → Type 0
Fails faults.Memory read = Unit {0}
Fails (faults.Refused refusal) read = read ≡ Err refusal

-- a function of the code returned what reading gives, seen by `view`, unless memory ran out
abbrev pub Gives : {X Y : Type 0} → (X → Y) → Result X ReadFault → Result Y Refusal → Type 0
Gives view (Ok x) read = read ≡ Ok (view x)
Gives view (Err fault) read = Fails fault read

-- the field that begins with these bytes is refused
abbrev pub refuse : {A : Type 0} → RpcKind → List ℕ → Result A Refusal
refuse kind bytes = Err (record { left = length bytes; kind = kind })

-- ---- numbers and texts

-- so many bytes, a field of their own
unfoldable pub bytes_at : ℕ → List ℕ → Result (List ℕ × List ℕ) Refusal
bytes_at count bytes = if nat_lt (length bytes) count then refuse kinds.Cut bytes else Ok (take count bytes, drop count bytes)

-- a byte
unfoldable pub byte_at : List ℕ → Result (ℕ × List ℕ) Refusal
byte_at [] = refuse kinds.Cut []
byte_at (byte ∷ rest) = Ok (byte, rest)

-- a number of two bytes, the lower first
unfoldable pub short_at : List ℕ → Result (ℕ × List ℕ) Refusal
short_at bytes = do
  two ← bytes_at 2 bytes
  Ok (from_le_bytes w16 two.0, two.1)

-- so many units
unfoldable pub units_at : ℕ → List ℕ → Result (List ℕ × List ℕ) Refusal
units_at count bytes = do
  text ← bytes_at (2 * count) bytes
  Ok (units_of text.0, text.1)

-- ---- types

-- the type that a parameter of the form gets: a text of bytes is one of units, which are ASCII
abbrev pub kind_of : Form → SqlType
kind_of (Number kind) = kind
kind_of (Units size) = NText size
kind_of (Bytes size) = NText size

-- whole numbers of so many bytes
abbrev pub whole_form : ℕ → Option Form
whole_form size =
    if size == 1 then Some (Number TinyInt)
    else if size == 2 then Some (Number SmallInt)
    else if size == 4 then Some (Number Int)
    else if size == 8 then Some (Number BigInt)
    else None

-- bits of so many bytes
abbrev pub bit_form : ℕ → Option Form
bit_form size = if size == 1 then Some (Number BitType) else None

-- texts of 16-bit units of so many bytes
abbrev pub units_form : ℕ → Option Form
units_form size = if size % 2 == 1 || size == 0 || nat_lt (2 * text_limit) size then None else Some (Units (size / 2))

-- texts of so many bytes; what is above the limit is the limit
abbrev pub bytes_form : ℕ → Option Form
bytes_form size = if size == 0 || nat_lt (2 * text_limit) size then None else Some (Bytes (min size text_limit))

-- a form, where there is one
abbrev pub formed : {A : Type 0} → List ℕ → Option A → List ℕ → Result (A × List ℕ) Refusal
formed bytes None rest = refuse kinds.Kind bytes
formed bytes (Some form) rest = Ok (form, rest)

-- a type of a byte and a size of one byte, which is all of the field
unfoldable pub sized_at : (ℕ → Option Form) → List ℕ → Result (Form × List ℕ) Refusal
sized_at form_of bytes = do
  front ← bytes_at 2 bytes
  formed bytes (form_of (slice_index front.0 1)) front.1

-- a type of a byte, a size of two bytes and a collation of five
unfoldable pub long_sized_at : (ℕ → Option Form) → List ℕ → Result (Form × List ℕ) Refusal
long_sized_at form_of bytes = do
  front ← bytes_at 8 bytes
  formed bytes (form_of (from_le_bytes w16 (take 2 (drop 1 front.0)))) front.1

-- the type that begins with this byte
unfoldable pub tagged_at : ℕ → List ℕ → Result (Form × List ℕ) Refusal
tagged_at tag bytes =
    if tag == intntype then sized_at whole_form bytes
    else if tag == bitntype then sized_at bit_form bytes
    else if tag == nvarchartype then long_sized_at units_form bytes
    else if tag == bigvarchartype then long_sized_at bytes_form bytes
    else refuse kinds.Kind bytes

-- a type, one field with its size and collation
unfoldable pub type_at : List ℕ → Result (Form × List ℕ) Refusal
type_at bytes = do
  tag ← byte_at bytes
  tagged_at tag.0 bytes

-- ---- values

-- a text of units behind its length, where it isn't NULL; `bytes` begin with the length
unfoldable pub ntext_of : ℕ → ℕ → List ℕ → List ℕ → Result (Value × List ℕ) Refusal
ntext_of size count bytes rest =
    if count == charbin_null then Ok (Null, rest)
    else if count % 2 == 1 || nat_lt (2 * size) count then refuse kinds.Value bytes
    else (units_at (count / 2) rest >>= λ text. Ok (Text text.0, text.1))

-- each byte is ASCII
abbrev pub is_ascii : List ℕ → Bool
is_ascii text = list_all (λ byte. nat_lt byte 128) text

-- a text that is ASCII; `bytes` begin with it
abbrev pub ascii_text : List ℕ → List ℕ → List ℕ → Result (Value × List ℕ) Refusal
ascii_text bytes text rest = if is_ascii text then Ok (Text text, rest) else refuse kinds.Value bytes

-- the same of a text of bytes
unfoldable pub ascii_of : ℕ → ℕ → List ℕ → List ℕ → Result (Value × List ℕ) Refusal
ascii_of size count bytes rest =
    if count == charbin_null then Ok (Null, rest)
    else if nat_lt size count then refuse kinds.Value bytes
    else (bytes_at count rest >>= λ text. ascii_text rest text.0 text.1)

-- how many bytes a number or a bit has
abbrev pub size_of : SqlType → ℕ
size_of TinyInt = 1
size_of SmallInt = 2
size_of Int = 4
size_of BigInt = 8
size_of BitType = 1
size_of (NText size) = 0

-- the number or the bit of these bytes
abbrev pub filled : SqlType → List ℕ → Value
filled TinyInt bytes = Whole (pos (slice_index bytes 0))
filled SmallInt bytes = Whole (cast_signed w16 (from_le_bytes w16 bytes))
filled Int bytes = Whole (cast_signed w32 (from_le_bytes w32 bytes))
filled BigInt bytes = Whole (cast_signed w64 (from_le_bytes w64 bytes))
filled BitType bytes = Bit (not (slice_index bytes 0 == 0))
filled (NText size) bytes = Null

-- a number or a bit behind its length, where it isn't NULL; `bytes` begin with the length
unfoldable pub filled_of : SqlType → ℕ → List ℕ → List ℕ → Result (Value × List ℕ) Refusal
filled_of kind count bytes rest =
    if count == 0 then Ok (Null, rest)
    else if count == size_of kind then (bytes_at (size_of kind) rest >>= λ part. Ok (filled kind part.0, part.1))
    else refuse kinds.Value bytes

-- a value of the form
unfoldable pub value_at : Form → List ℕ → Result (Value × List ℕ) Refusal
value_at (Units size) bytes = do
  count ← short_at bytes
  ntext_of size count.0 bytes count.1
value_at (Bytes size) bytes = do
  count ← short_at bytes
  ascii_of size count.0 bytes count.1
value_at (Number kind) bytes = do
  count ← byte_at bytes
  filled_of kind count.0 bytes count.1

-- ---- parameters

-- the bit of a status
abbrev pub has_bit : ℕ → ℕ → Bool
has_bit status bit = (status / bit) % 2 == 1

-- what stands behind a parameter's name
unfoldable pub named_at : List ℕ → List ℕ → Result (RpcParameter × List ℕ) Refusal
named_at name bytes = do
  status ← byte_at bytes
  form ← type_at status.1
  value ← value_at form.0 form.1
  Ok (record { name = name; output = has_bit status.0 1; missing = has_bit status.0 2; kind = kind_of form.0; value = value.0 }, value.1)

-- a name of so many units, and what stands behind it; `bytes` begin with the count
unfoldable pub counted_at : ℕ → List ℕ → List ℕ → Result (RpcParameter × List ℕ) Refusal
counted_at count bytes rest =
    if nat_lt name_limit count then refuse kinds.Trailing bytes
    else (units_at count rest >>= λ name. named_at name.0 name.1)

-- a parameter
unfoldable pub parameter_at : List ℕ → Result (RpcParameter × List ℕ) Refusal
parameter_at bytes = do
  count ← byte_at bytes
  counted_at count.0 bytes count.1

-- the parameters up to the end, at most so many: no more than there are bytes
unfoldable pub parameters_at : ℕ → List ℕ → Result (List RpcParameter) Refusal
parameters_at most [] = Ok []
parameters_at zero (byte ∷ bytes) = Ok []
parameters_at (suc most) (byte ∷ bytes) = do
  first ← parameter_at (byte ∷ bytes)
  others ← parameters_at most first.1
  Ok (first.0 ∷ others)

-- ---- calls

-- the procedure of a number; `bytes` begin with the number
unfoldable pub numbered_of : ℕ → List ℕ → List ℕ → Result (RpcTarget × List ℕ) Refusal
numbered_of number bytes rest = if number == sp_executesql then Ok (ExecuteSql, rest) else refuse kinds.Procedure bytes

-- a procedure's number
unfoldable pub numbered_at : List ℕ → Result (RpcTarget × List ℕ) Refusal
numbered_at bytes = do
  number ← short_at bytes
  numbered_of number.0 bytes number.1

-- the procedure: its name, or its number
unfoldable pub target_of : ℕ → List ℕ → Result (RpcTarget × List ℕ) Refusal
target_of count bytes = if count == by_number then numbered_at bytes else (units_at count bytes >>= λ name. Ok (Named name.0, name.1))

-- the same with the count
unfoldable pub target_at : List ℕ → Result (RpcTarget × List ℕ) Refusal
target_at bytes = do
  count ← short_at bytes
  target_of count.0 count.1

-- a call behind its headers
unfoldable pub call_at : List ℕ → Result RpcCall Refusal
call_at bytes = do
  target ← target_at bytes
  flags ← bytes_at 2 target.1
  parameters ← parameters_at (length flags.1) flags.1
  Ok (record { target = target.0; parameters = parameters })

-- the bytes behind the headers, whose total length stands in their first four
unfoldable pub behind_headers : List ℕ → Result (List ℕ) Refusal
behind_headers payload =
    if nat_lt (length payload) 4 || nat_lt (little_number 4 payload) 4 || nat_lt (length payload) (little_number 4 payload) then refuse kinds.Headers payload
    else Ok (drop (little_number 4 payload) payload)

-- headers and a call
unfoldable pub whole_call : List ℕ → Result RpcCall Refusal
whole_call payload = do
  rest ← behind_headers payload
  call_at rest

-- a refusal, by the offset of its field in a payload of so many bytes
abbrev pub placed : {A : Type 0} → ℕ → Result A Refusal → Result A RpcFault
placed size (Ok call) = Ok call
placed size (Err refusal) = Err (Bad (size - refusal.left) refusal.kind)

-- what a payload says as a call, or the first field that is refused
unfoldable pub rpc_of : List ℕ → Result RpcCall RpcFault
rpc_of payload = placed (length payload) (whole_call payload)

-- the answer is what the payload says, unless memory ran out
abbrev pub Answers : {A : Type 0} → Result A RpcFault → Result A RpcFault → Type 0
Answers (Ok call) read = read ≡ Ok call
Answers (Err (Bad place kind)) read = read ≡ Err (Bad place kind)
Answers (Err Memory) read = Unit {0}
