-- [MS-TDS] 2.2.6.6, 2.2.5.4 and 2.2.5.2.3, as far as drivers use them (own: which of it): a call, with the procedures
-- that prepare statements and texts of every kind. It is read as `Reading` reads; here stands what differs. A text
-- that is a statement or its declarations may have any length, every other one at most 4,000 units.
-- Not looked at, besides: the size of a NTEXT or TEXT.
use Rattle.std.specs.Prelude.{ℕ, zero, suc, ◌*◌, ◌-◌, ◌/◌, ◌%◌, min, Bool, true, false, not, ◌==◌, ◌||◌, ◌&&◌, nat_lt, nat_le, if◌then◌else◌, List, [], ◌∷◌, ◌++◌, length, take, drop, map, slice_index, Option, Some, None, Result, Ok, codes}
use Rattle.std.specs.Int.{w16, w32, w64, from_le_bytes}
use Rattle.value_types.specs.declared.sql_type.SqlType.{SqlType}
use Rattle.value_types.specs.declared.sql_type.SqlType.TheVariants.{NText}
use Rattle.value_types.specs.declared.value.Value.{Value}
use Rattle.value_types.specs.declared.value.Value.TheVariants.{Null, Text}
use Rattle.value_types.specs.Units.{units_of, same_units}
use Rattle.rpc_requests.specs.declared.call.RpcParameter.{RpcParameter}
use Rattle.rpc_requests.specs.declared.call.DriverCall.{DriverCall}
use Rattle.rpc_requests.specs.declared.call.DriverProcedure.{DriverProcedure}
use Rattle.rpc_requests.specs.declared.call.DriverProcedure.TheVariants.{ExecuteSql, Prepare, Execute, PrepExec, Unprepare, Reset}
use Rattle.rpc_requests.specs.declared.call.DriverTarget.{DriverTarget}
use Rattle.rpc_requests.specs.declared.call.DriverTarget.TheVariants.{Named, System}
use Rattle.rpc_requests.specs.declared.fault.Refusal.{Refusal}
use Rattle.rpc_requests.specs.declared.fault.RpcFault.{RpcFault}
use Rattle.rpc_requests.specs.declared.fault.RpcKind.TheVariants as kinds
use Rattle.rpc_requests.specs.declared.types.Form.{Form}
use Rattle.rpc_requests.specs.declared.driver_types.DriverForm.{DriverForm}
use Rattle.rpc_requests.specs.declared.driver_types.DriverForm.TheVariants.{Number, Sized, Long, Chunks}
use Rattle.tds_tokens.specs.Spelling.{intntype, bitntype, nvarchartype}
use Rattle.rpc_requests.specs.Spelling.{bigvarchartype, charbin_null, by_number, sp_executesql}
use Rattle.rpc_requests.specs.Fit.{name_limit, text_limit}
use Rattle.rpc_requests.specs.Reading.{◌>>=◌, refuse, bytes_at, byte_at, short_at, units_at, kind_of, whole_form, bit_form, formed, filled_of, has_bit, behind_headers, placed}

-- ---- procedures

-- the numbers of the procedures that prepare statements
abbrev pub sp_prepare : ℕ
sp_prepare = 11

abbrev pub sp_execute : ℕ
sp_execute = 12

abbrev pub sp_prepexec : ℕ
sp_prepexec = 13

abbrev pub sp_unprepare : ℕ
sp_unprepare = 15

-- the procedure of a number
abbrev pub procedure_of_number : ℕ → Option DriverProcedure
procedure_of_number number =
    if number == sp_executesql then Some ExecuteSql
    else if number == sp_prepare then Some Prepare
    else if number == sp_execute then Some Execute
    else if number == sp_prepexec then Some PrepExec
    else if number == sp_unprepare then Some Unprepare
    else None

-- the procedure of a name
abbrev pub procedure_of_name : List ℕ → Option DriverProcedure
procedure_of_name name =
    if same_units name (codes "sp_executesql") then Some ExecuteSql
    else if same_units name (codes "sp_prepare") then Some Prepare
    else if same_units name (codes "sp_execute") then Some Execute
    else if same_units name (codes "sp_prepexec") then Some PrepExec
    else if same_units name (codes "sp_unprepare") then Some Unprepare
    else if same_units name (codes "sp_reset_connection") then Some Reset
    else None

-- what a name calls: a procedure of these, or one that was created
abbrev pub target_of_name : List ℕ → Option DriverProcedure → DriverTarget
target_of_name name None = Named name
target_of_name name (Some procedure) = System procedure

-- what a number calls; `bytes` begin with it
abbrev pub target_of_number : List ℕ → Option DriverProcedure → List ℕ → Result (DriverTarget × List ℕ) Refusal
target_of_number bytes None rest = refuse kinds.Procedure bytes
target_of_number bytes (Some procedure) rest = Ok (System procedure, rest)

-- the procedure: its name, or its number
unfoldable pub driver_target_of : ℕ → List ℕ → Result (DriverTarget × List ℕ) Refusal
driver_target_of count bytes =
    if count == by_number then (short_at bytes >>= λ number. target_of_number bytes (procedure_of_number number.0) number.1)
    else (units_at count bytes >>= λ name. Ok (target_of_name name.0 (procedure_of_name name.0), name.1))

-- the same with the count
unfoldable pub driver_target_at : List ℕ → Result (DriverTarget × List ℕ) Refusal
driver_target_at bytes = do
  count ← short_at bytes
  driver_target_of count.0 count.1

-- front parameters: how many a procedure of the server takes itself, in front of those of what it runs
abbrev pub front_of : DriverProcedure → ℕ
front_of ExecuteSql = 2
front_of Prepare = 3
front_of PrepExec = 3
front_of Execute = 1
front_of Unprepare = 1
front_of Reset = 0

abbrev pub front_count : DriverTarget → ℕ
front_count (Named name) = 0
front_count (System procedure) = front_of procedure

-- ---- types

-- first byte   type                     a unit    its size                    a value stands
-- 26, 68       whole numbers, BIT                 1 byte                      behind 1 byte, 00 for NULL
-- E7, EF       NVARCHAR, NCHAR          2 bytes   2 bytes, even, 2 to 8000    behind 2 bytes, FF FF for NULL
-- A7, AF       VARCHAR, CHAR            1 byte    2 bytes, 1 to 8000          behind 2 bytes, FF FF for NULL
-- E7, A7       .. of size FF FF (MAX)   2, 1      2 bytes                     in chunks
-- 63, 23       NTEXT, TEXT              2, 1      4 bytes, not looked at      behind 4 bytes, FF FF FF FF for NULL
-- Behind each size of a text stands a collation of five bytes. Another first byte is refused.

abbrev pub nchartype : ℕ
nchartype = 0xEF

abbrev pub bigchartype : ℕ
bigchartype = 0xAF

abbrev pub ntexttype : ℕ
ntexttype = 0x63

abbrev pub texttype : ℕ
texttype = 0x23

-- the size of what has no largest one
abbrev pub max_size : ℕ
max_size = 0xFFFF

-- texts of so many bytes, of which two make a unit
abbrev pub wide_form : ℕ → Option DriverForm
wide_form size = if size % 2 == 1 || size == 0 || nat_lt (2 * text_limit) size then None else Some (Sized true size)

-- texts of so many bytes, each a unit
abbrev pub narrow_form : ℕ → Option DriverForm
narrow_form size = if size == 0 || nat_lt (2 * text_limit) size then None else Some (Sized false size)

-- the same, and the size of MAX
abbrev pub wide_or_chunks : ℕ → Option DriverForm
wide_or_chunks size = if size == max_size then Some (Chunks true) else wide_form size

abbrev pub narrow_or_chunks : ℕ → Option DriverForm
narrow_or_chunks size = if size == max_size then Some (Chunks false) else narrow_form size

-- the type that a parameter of the form gets
abbrev pub kind_of_form : DriverForm → SqlType
kind_of_form (Number kind) = kind
kind_of_form (Sized true size) = NText (size / 2)
kind_of_form (Sized false size) = NText (min size text_limit)
kind_of_form (Long wide) = NText text_limit
kind_of_form (Chunks wide) = NText text_limit

-- a number or a bit of a form, where there is one
abbrev pub number_form : Option Form → Option DriverForm
number_form None = None
number_form (Some form) = Some (Number (kind_of form))

-- a type of a byte and a size of one byte
unfoldable pub number_form_at : (ℕ → Option Form) → List ℕ → Result (DriverForm × List ℕ) Refusal
number_form_at form_of bytes = do
  front ← bytes_at 2 bytes
  formed bytes (number_form (form_of (slice_index front.0 1))) front.1

-- a type of a byte, a size of two bytes and a collation
unfoldable pub text_form_at : (ℕ → Option DriverForm) → List ℕ → Result (DriverForm × List ℕ) Refusal
text_form_at form_of bytes = do
  front ← bytes_at 8 bytes
  formed bytes (form_of (from_le_bytes w16 (take 2 (drop 1 front.0)))) front.1

-- a type of a byte, a size of four bytes and a collation
unfoldable pub long_form_at : Bool → List ℕ → Result (DriverForm × List ℕ) Refusal
long_form_at wide bytes = do
  front ← bytes_at 10 bytes
  Ok (Long wide, front.1)

-- the type that begins with this byte
unfoldable pub driver_tagged_at : ℕ → List ℕ → Result (DriverForm × List ℕ) Refusal
driver_tagged_at tag bytes =
    if tag == intntype then number_form_at whole_form bytes
    else if tag == bitntype then number_form_at bit_form bytes
    else if tag == nvarchartype then text_form_at wide_or_chunks bytes
    else if tag == bigvarchartype then text_form_at narrow_or_chunks bytes
    else if tag == nchartype then text_form_at wide_form bytes
    else if tag == bigchartype then text_form_at narrow_form bytes
    else if tag == ntexttype then long_form_at true bytes
    else if tag == texttype then long_form_at false bytes
    else refuse kinds.Kind bytes

-- a type, one field with its size and collation
unfoldable pub driver_type_at : List ℕ → Result (DriverForm × List ℕ) Refusal
driver_type_at bytes = do
  tag ← byte_at bytes
  driver_tagged_at tag.0 bytes

-- ---- Windows-1252

-- the units of the bytes from 80 to 9F; five of them are no letters there, and stand for themselves
unfoldable pub windows_1252 : List ℕ
windows_1252 =
    0x20AC ∷ 0x0081 ∷ 0x201A ∷ 0x0192 ∷ 0x201E ∷ 0x2026 ∷ 0x2020 ∷ 0x2021
    ∷ 0x02C6 ∷ 0x2030 ∷ 0x0160 ∷ 0x2039 ∷ 0x0152 ∷ 0x008D ∷ 0x017D ∷ 0x008F
    ∷ 0x0090 ∷ 0x2018 ∷ 0x2019 ∷ 0x201C ∷ 0x201D ∷ 0x2022 ∷ 0x2013 ∷ 0x2014
    ∷ 0x02DC ∷ 0x2122 ∷ 0x0161 ∷ 0x203A ∷ 0x0153 ∷ 0x009D ∷ 0x017E ∷ 0x0178 ∷ []

-- every other byte is the unit of its number
unfoldable pub unit_of_byte : ℕ → ℕ
unit_of_byte byte = if nat_lt byte 0x80 || nat_le 0xA0 byte then byte else slice_index windows_1252 (byte - 0x80)

-- the units of bytes, of two each or of one
abbrev pub units_in : Bool → List ℕ → List ℕ
units_in true bytes = units_of bytes
units_in false bytes = map unit_of_byte bytes

-- ---- values

-- a number of four bytes, the lowest first
unfoldable pub long_at : List ℕ → Result (ℕ × List ℕ) Refusal
long_at bytes = do
  four ← bytes_at 4 bytes
  Ok (from_le_bytes w32 four.0, four.1)

-- a number of eight bytes, the lowest first
unfoldable pub long_long_at : List ℕ → Result (ℕ × List ℕ) Refusal
long_long_at bytes = do
  eight ← bytes_at 8 bytes
  Ok (from_le_bytes w64 eight.0, eight.1)

-- two bytes make a unit, and one is left
abbrev pub is_half : Bool → ℕ → Bool
is_half wide count = wide && count % 2 == 1

-- the text, of which so many units may stand there; `start` begins with its length
abbrev pub bounded_text : ℕ → List ℕ → List ℕ → List ℕ → Result (Value × List ℕ) Refusal
bounded_text most start units rest = if nat_lt most (length units) then refuse kinds.Long start else Ok (Text units, rest)

-- the text of so many bytes
unfoldable pub text_of : ℕ → Bool → ℕ → List ℕ → List ℕ → Result (Value × List ℕ) Refusal
text_of most wide count start rest =
    if is_half wide count then refuse kinds.Value start
    else (bytes_at count rest >>= λ text. bounded_text most start (units_in wide text.0) text.1)

-- a text of a size, where it isn't NULL
unfoldable pub sized_of : ℕ → Bool → ℕ → ℕ → List ℕ → List ℕ → Result (Value × List ℕ) Refusal
sized_of most wide size count start rest =
    if count == charbin_null then Ok (Null, rest)
    else if nat_lt size count then refuse kinds.Value start
    else text_of most wide count start rest

-- the length of a NTEXT or TEXT that stands for NULL
abbrev pub long_null : ℕ
long_null = 0xFFFFFFFF

-- a NTEXT or TEXT, where it isn't NULL
unfoldable pub long_of : ℕ → Bool → ℕ → List ℕ → List ℕ → Result (Value × List ℕ) Refusal
long_of most wide count start rest = if count == long_null then Ok (Null, rest) else text_of most wide count start rest

-- PLP_CHUNK: bytes behind their number
unfoldable pub chunk_at : List ℕ → Result (List ℕ × List ℕ) Refusal
chunk_at bytes = do
  size ← long_at bytes
  bytes_at size.0 size.1

-- the bytes of chunks up to an empty one, the last; at most so many: no more than there are bytes
unfoldable pub chunks_at : ℕ → List ℕ → Result (List ℕ × List ℕ) Refusal
chunks_at zero bytes = refuse kinds.Cut bytes
chunks_at (suc most) bytes = do
  chunk ← chunk_at bytes
  if length chunk.0 == 0 then Ok chunk else (chunks_at most chunk.1 >>= λ others. Ok (chunk.0 ++ others.0, others.1))

-- the length of chunks that stands for NULL, and the one that isn't told
abbrev pub plp_null : ℕ
plp_null = 0xFFFFFFFFFFFFFFFF

abbrev pub plp_unknown : ℕ
plp_unknown = 0xFFFFFFFFFFFFFFFE

-- the text of all chunks, of which the length in front was told, or not
abbrev pub joined_of : ℕ → Bool → ℕ → List ℕ → List ℕ → List ℕ → Result (Value × List ℕ) Refusal
joined_of most wide told start joined rest =
    if not (told == plp_unknown || told == length joined) || is_half wide (length joined) then refuse kinds.Value start
    else bounded_text most start (units_in wide joined) rest

-- PLP_BODY: a text in chunks, where it isn't NULL
unfoldable pub chunked_of : ℕ → Bool → ℕ → List ℕ → List ℕ → Result (Value × List ℕ) Refusal
chunked_of most wide told start rest =
    if told == plp_null then Ok (Null, rest)
    else (chunks_at (length rest) rest >>= λ chunks. joined_of most wide told start chunks.0 chunks.1)

-- a value of the form; a text may have so many units
unfoldable pub driver_value_at : ℕ → DriverForm → List ℕ → Result (Value × List ℕ) Refusal
driver_value_at most (Number kind) bytes = do
  count ← byte_at bytes
  filled_of kind count.0 bytes count.1
driver_value_at most (Sized wide size) bytes = do
  count ← short_at bytes
  sized_of most wide size count.0 bytes count.1
driver_value_at most (Long wide) bytes = do
  count ← long_at bytes
  long_of most wide count.0 bytes count.1
driver_value_at most (Chunks wide) bytes = do
  told ← long_long_at bytes
  chunked_of most wide told.0 bytes told.1

-- ---- parameters

-- how many units a text may have, with so many front parameters ahead: of one of them as many as the payload, of so
-- many bytes, can hold
abbrev pub most_at : ℕ → ℕ → ℕ
most_at ahead size = if ahead == 0 then text_limit else size

-- what stands behind a parameter's name
unfoldable pub driver_named_at : ℕ → List ℕ → List ℕ → Result (RpcParameter × List ℕ) Refusal
driver_named_at most name bytes = do
  status ← byte_at bytes
  form ← driver_type_at status.1
  value ← driver_value_at most form.0 form.1
  Ok (record { name = name; output = has_bit status.0 1; missing = has_bit status.0 2; kind = kind_of_form form.0; value = value.0 }, value.1)

-- a name of so many units, and what stands behind it; `start` begins with the count
unfoldable pub driver_counted_at : ℕ → ℕ → List ℕ → List ℕ → Result (RpcParameter × List ℕ) Refusal
driver_counted_at most count start rest =
    if nat_lt name_limit count then refuse kinds.Trailing start
    else (units_at count rest >>= λ name. driver_named_at most name.0 name.1)

-- a parameter
unfoldable pub driver_parameter_at : ℕ → List ℕ → Result (RpcParameter × List ℕ) Refusal
driver_parameter_at most bytes = do
  count ← byte_at bytes
  driver_counted_at most count.0 bytes count.1

-- the parameters up to the end, with so many front ones ahead; at most so many: no more than there are bytes
unfoldable pub driver_parameters_at : ℕ → ℕ → ℕ → List ℕ → Result (List RpcParameter) Refusal
driver_parameters_at ahead size most [] = Ok []
driver_parameters_at ahead size zero (byte ∷ bytes) = Ok []
driver_parameters_at ahead size (suc most) (byte ∷ bytes) = do
  first ← driver_parameter_at (most_at ahead size) (byte ∷ bytes)
  others ← driver_parameters_at (ahead - 1) size most first.1
  Ok (first.0 ∷ others)

-- ---- calls

-- a call behind its headers, in a payload of so many bytes
unfoldable pub driver_call_at : ℕ → List ℕ → Result DriverCall Refusal
driver_call_at size bytes = do
  target ← driver_target_at bytes
  flags ← bytes_at 2 target.1
  parameters ← driver_parameters_at (front_count target.0) size (length flags.1) flags.1
  Ok (record { target = target.0; parameters = parameters })

-- headers and a call
unfoldable pub whole_driver_call : List ℕ → Result DriverCall Refusal
whole_driver_call payload = do
  rest ← behind_headers payload
  driver_call_at (length payload) rest

-- what a payload says as a call of a driver, or the first field that is refused
unfoldable pub driver_call_of : List ℕ → Result DriverCall RpcFault
driver_call_of payload = placed (length payload) (whole_driver_call payload)
