-- The definitions at the calls that drivers are known to send, and at calls of each kind of text.
use Rattle.std.proofs.Common.{◌≡◌, ℕ, List, [], ◌∷◌, ◌++◌, map, true, false, pos, negsuc, Result, Ok, Err, refl}
use Rattle.std.specs.Prelude.{codes, replicate}
use Rattle.value_types.specs.declared.sql_type.SqlType.{SqlType}
use Rattle.value_types.specs.declared.sql_type.SqlType.TheVariants.{SmallInt, Int, BigInt, Bit as BitType, NText}
use Rattle.value_types.specs.declared.value.Value.{Value}
use Rattle.value_types.specs.declared.value.Value.TheVariants.{Null, Whole, Bit, Text}
use Rattle.value_types.specs.Units.{le_bytes_of}
use Rattle.rpc_requests.specs.declared.call.RpcParameter.{RpcParameter}
use Rattle.rpc_requests.specs.declared.call.DriverCall.{DriverCall}
use Rattle.rpc_requests.specs.declared.call.DriverProcedure.{DriverProcedure}
use Rattle.rpc_requests.specs.declared.call.DriverProcedure.TheVariants.{ExecuteSql, Prepare, Execute, PrepExec, Unprepare, Reset}
use Rattle.rpc_requests.specs.declared.call.DriverTarget.TheVariants.{Named, System}
use Rattle.rpc_requests.specs.declared.fault.RpcFault.{RpcFault}
use Rattle.rpc_requests.specs.declared.fault.RpcFault.TheVariants.{Bad}
use Rattle.rpc_requests.specs.declared.fault.RpcKind.{RpcKind}
use Rattle.rpc_requests.specs.declared.fault.RpcKind.TheVariants as kinds
use Rattle.rpc_requests.specs.Reading.{behind_headers, byte_at, bytes_at, filled_of, short_at, units_at}
use Rattle.rpc_requests.specs.Drivers.{chunk_at, chunked_of, chunks_at, driver_call_at, driver_call_of, driver_counted_at, driver_named_at, driver_parameter_at, driver_parameters_at, driver_tagged_at, driver_target_at, driver_target_of, driver_type_at, driver_value_at, long_at, long_form_at, long_long_at, long_of, number_form_at, sized_of, text_form_at, text_of, unit_of_byte, whole_driver_call, windows_1252}

-- ---- payloads

-- headers as drivers send them, and the shortest
abbrev headers : List ℕ → List ℕ
headers rest =
    0x16 ∷ 0x00 ∷ 0x00 ∷ 0x00 ∷ 0x12 ∷ 0x00 ∷ 0x00 ∷ 0x00 ∷ 0x02 ∷ 0x00 ∷ 0x00 ∷ 0x00 ∷ 0x00 ∷ 0x00 ∷ 0x00 ∷ 0x00
    ∷ 0x00 ∷ 0x00 ∷ 0x01 ∷ 0x00 ∷ 0x00 ∷ 0x00 ∷ rest

abbrev least : List ℕ → List ℕ
least rest = 4 ∷ 0 ∷ 0 ∷ 0 ∷ rest

-- a procedure by its number, by its name, and option flags
abbrev by_number : ℕ → List ℕ → List ℕ
by_number number rest = 0xFF ∷ 0xFF ∷ number ∷ 0 ∷ 0 ∷ 0 ∷ rest

abbrev by_name : ℕ → List ℕ → List ℕ → List ℕ
by_name count name rest = (count ∷ 0 ∷ le_bytes_of name) ++ (0 ∷ 0 ∷ rest)

-- a call of `p` with a parameter: of these bytes behind its status, which are the thirteenth and those behind it
abbrev given : List ℕ → List ℕ
given rest = least (by_name 1 (codes "p") (0 ∷ 0 ∷ rest))

-- a collation
abbrev collated : List ℕ → List ℕ
collated rest = 9 ∷ 4 ∷ 0 ∷ 2 ∷ 0 ∷ rest

-- chunks whose length isn't told
abbrev chunks : List ℕ → List ℕ
chunks rest = 0xFE ∷ 0xFF ∷ 0xFF ∷ 0xFF ∷ 0xFF ∷ 0xFF ∷ 0xFF ∷ 0xFF ∷ rest

abbrev chunk : ℕ → List ℕ → List ℕ
chunk count rest = count ∷ 0 ∷ 0 ∷ 0 ∷ rest

-- ---- what they say

abbrev plain : SqlType → Value → RpcParameter
plain kind value = record { name = []; output = false; missing = false; kind = kind; value = value }

abbrev calls : DriverProcedure → List RpcParameter → Result DriverCall RpcFault
calls procedure parameters = Ok (record { target = System procedure; parameters = parameters })

-- `p` is called with this value
abbrev gives : SqlType → Value → Result DriverCall RpcFault
gives kind value = Ok (record { target = Named (codes "p"); parameters = plain kind value ∷ [] })

abbrev refused : ℕ → RpcKind → Result DriverCall RpcFault
refused at kind = Err (Bad at kind)

-- ---- whole calls

-- sp_prepexec with a NTEXT each for the declarations and the statement, as FreeTDS sends it
abbrev prepared : List ℕ
prepared = headers (by_number 13 (
    (0 ∷ 1 ∷ 0x26 ∷ 4 ∷ 0
    ∷ 0 ∷ 0 ∷ 0x63 ∷ 0x0E ∷ 0 ∷ 0 ∷ 0 ∷ collated (0x0E ∷ 0 ∷ 0 ∷ 0 ∷ le_bytes_of (codes "@P1 INT")))
    ++ (0 ∷ 0 ∷ 0x63 ∷ 0x14 ∷ 0 ∷ 0 ∷ 0 ∷ collated (0x14 ∷ 0 ∷ 0 ∷ 0 ∷ le_bytes_of (codes "SELECT @P1")))
    ++ (0 ∷ 0 ∷ 0x26 ∷ 4 ∷ 4 ∷ 1 ∷ 0 ∷ 0 ∷ 0 ∷ [])))

pub prepared_is_read : driver_call_of prepared ≡ calls PrepExec (
    record { name = []; output = true; missing = false; kind = Int; value = Null }
    ∷ plain (NText 4000) (Text (codes "@P1 INT"))
    ∷ plain (NText 4000) (Text (codes "SELECT @P1"))
    ∷ plain Int (Whole (pos 1))
    ∷ [])
unfolding behind_headers byte_at bytes_at filled_of short_at units_at chunk_at chunked_of chunks_at driver_call_at driver_call_of driver_counted_at driver_named_at driver_parameter_at driver_parameters_at driver_tagged_at driver_target_at driver_target_of driver_type_at driver_value_at long_at long_form_at long_long_at long_of number_form_at sized_of text_form_at text_of unit_of_byte whole_driver_call windows_1252
prepared_is_read = refl

-- sp_executesql with an empty text in chunks, as go-mssqldb sends it
abbrev executed : List ℕ
executed = headers (by_number 10 (
    (0 ∷ 0 ∷ 0xE7 ∷ 0x12 ∷ 0 ∷ 0 ∷ 0 ∷ 0 ∷ 0 ∷ 0 ∷ 0x12 ∷ 0 ∷ le_bytes_of (codes "SELECT @a"))
    ++ (0 ∷ 0 ∷ 0xE7 ∷ 0x10 ∷ 0 ∷ 0 ∷ 0 ∷ 0 ∷ 0 ∷ 0 ∷ 0x10 ∷ 0 ∷ le_bytes_of (codes "@a ntext"))
    ++ (2 ∷ 0x40 ∷ 0 ∷ 0x61 ∷ 0 ∷ 0 ∷ 0xE7 ∷ 0xFF ∷ 0xFF ∷ 0 ∷ 0 ∷ 0 ∷ 0 ∷ 0 ∷ chunks (chunk 0 []))))

pub executed_is_read : driver_call_of executed ≡ calls ExecuteSql (
    plain (NText 9) (Text (codes "SELECT @a"))
    ∷ plain (NText 8) (Text (codes "@a ntext"))
    ∷ record { name = codes "@a"; output = false; missing = false; kind = NText 4000; value = Text [] }
    ∷ [])
unfolding behind_headers byte_at bytes_at filled_of short_at units_at chunk_at chunked_of chunks_at driver_call_at driver_call_of driver_counted_at driver_named_at driver_parameter_at driver_parameters_at driver_tagged_at driver_target_at driver_target_of driver_type_at driver_value_at long_at long_form_at long_long_at long_of number_form_at sized_of text_form_at text_of unit_of_byte whole_driver_call windows_1252
executed_is_read = refl

-- ---- procedures

-- by numbers and by names, those of the server, and others
pub procedures_are_read :
    map driver_call_of (
    least (by_number 10 []) ∷ least (by_number 11 []) ∷ least (by_number 12 []) ∷ least (by_number 13 []) ∷ least (by_number 15 [])
    ∷ least (by_name 13 (codes "sp_executesql") []) ∷ least (by_name 10 (codes "sp_prepare") []) ∷ least (by_name 10 (codes "sp_execute") [])
    ∷ least (by_name 11 (codes "sp_prepexec") []) ∷ least (by_name 12 (codes "sp_unprepare") []) ∷ least (by_name 19 (codes "sp_reset_connection") [])
    ∷ least (by_name 10 (codes "SP_EXECUTE") []) ∷ least (by_name 9 (codes "sp_execut") [])
    ∷ least (by_number 1 []) ∷ least (by_number 14 []) ∷ least (0xFF ∷ 0xFF ∷ 13 ∷ []) ∷ least (0xFF ∷ 0xFF ∷ 13 ∷ 1 ∷ [])
    ∷ least (0xFF ∷ 0xFF ∷ 13 ∷ 0 ∷ 0 ∷ []) ∷ (3 ∷ 0 ∷ 0 ∷ 0 ∷ [])
    ∷ [])
    ≡ (calls ExecuteSql [] ∷ calls Prepare [] ∷ calls Execute [] ∷ calls PrepExec [] ∷ calls Unprepare []
    ∷ calls ExecuteSql [] ∷ calls Prepare [] ∷ calls Execute [] ∷ calls PrepExec [] ∷ calls Unprepare [] ∷ calls Reset []
    ∷ Ok (record { target = Named (codes "SP_EXECUTE"); parameters = [] }) ∷ Ok (record { target = Named (codes "sp_execut"); parameters = [] })
    ∷ refused 6 kinds.Procedure ∷ refused 6 kinds.Procedure ∷ refused 6 kinds.Cut ∷ refused 6 kinds.Procedure
    ∷ refused 8 kinds.Cut ∷ refused 0 kinds.Headers
    ∷ [])
unfolding behind_headers byte_at bytes_at filled_of short_at units_at chunk_at chunked_of chunks_at driver_call_at driver_call_of driver_counted_at driver_named_at driver_parameter_at driver_parameters_at driver_tagged_at driver_target_at driver_target_of driver_type_at driver_value_at long_at long_form_at long_long_at long_of number_form_at sized_of text_form_at text_of unit_of_byte whole_driver_call windows_1252
procedures_are_read = refl

-- ---- values

-- a whole number, a bit, NVARCHAR, NCHAR, VARCHAR, CHAR, NTEXT and TEXT, each with NULL behind it
pub values_are_read :
    map driver_call_of (
    given (0x26 ∷ 2 ∷ 2 ∷ 0xFE ∷ 0xFF ∷ []) ∷ given (0x26 ∷ 8 ∷ 0 ∷ [])
    ∷ given (0x68 ∷ 1 ∷ 1 ∷ 7 ∷ []) ∷ given (0x68 ∷ 1 ∷ 0 ∷ [])
    ∷ given (0xE7 ∷ 4 ∷ 0 ∷ collated (4 ∷ 0 ∷ 0x61 ∷ 0 ∷ 0x62 ∷ 1 ∷ [])) ∷ given (0xE7 ∷ 2 ∷ 0 ∷ collated (0xFF ∷ 0xFF ∷ []))
    ∷ given (0xEF ∷ 6 ∷ 0 ∷ collated (4 ∷ 0 ∷ 0x61 ∷ 0 ∷ 0x20 ∷ 0 ∷ [])) ∷ given (0xEF ∷ 0x40 ∷ 0x1F ∷ collated (0xFF ∷ 0xFF ∷ []))
    ∷ given (0xA7 ∷ 0x50 ∷ 0 ∷ collated (3 ∷ 0 ∷ 0x8E ∷ 0xE9 ∷ 0x80 ∷ [])) ∷ given (0xA7 ∷ 1 ∷ 0 ∷ collated (0xFF ∷ 0xFF ∷ []))
    ∷ given (0xAF ∷ 3 ∷ 0 ∷ collated (0 ∷ 0 ∷ [])) ∷ given (0xAF ∷ 0x40 ∷ 0x1F ∷ collated (0xFF ∷ 0xFF ∷ []))
    ∷ given (0x63 ∷ 0 ∷ 0 ∷ 0 ∷ 0 ∷ collated (2 ∷ 0 ∷ 0 ∷ 0 ∷ 0x61 ∷ 0 ∷ [])) ∷ given (0x63 ∷ 1 ∷ 0 ∷ 0 ∷ 0 ∷ collated (0xFF ∷ 0xFF ∷ 0xFF ∷ 0xFF ∷ []))
    ∷ given (0x23 ∷ 3 ∷ 0 ∷ 0 ∷ 0x80 ∷ collated (3 ∷ 0 ∷ 0 ∷ 0 ∷ 0x61 ∷ 0x81 ∷ 0x99 ∷ [])) ∷ given (0x23 ∷ 1 ∷ 0 ∷ 0 ∷ 0 ∷ collated (0xFF ∷ 0xFF ∷ 0xFF ∷ 0xFF ∷ []))
    ∷ [])
    ≡ (gives SmallInt (Whole (negsuc 1)) ∷ gives BigInt Null
    ∷ gives BitType (Bit true) ∷ gives BitType Null
    ∷ gives (NText 2) (Text (0x61 ∷ 0x162 ∷ [])) ∷ gives (NText 1) Null
    ∷ gives (NText 3) (Text (codes "a ")) ∷ gives (NText 4000) Null
    ∷ gives (NText 80) (Text (0x17D ∷ 0xE9 ∷ 0x20AC ∷ [])) ∷ gives (NText 1) Null
    ∷ gives (NText 3) (Text []) ∷ gives (NText 4000) Null
    ∷ gives (NText 4000) (Text (codes "a")) ∷ gives (NText 4000) Null
    ∷ gives (NText 4000) (Text (0x61 ∷ 0x81 ∷ 0x2122 ∷ [])) ∷ gives (NText 4000) Null
    ∷ [])
unfolding behind_headers byte_at bytes_at filled_of short_at units_at chunk_at chunked_of chunks_at driver_call_at driver_call_of driver_counted_at driver_named_at driver_parameter_at driver_parameters_at driver_tagged_at driver_target_at driver_target_of driver_type_at driver_value_at long_at long_form_at long_long_at long_of number_form_at sized_of text_form_at text_of unit_of_byte whole_driver_call windows_1252
values_are_read = refl

-- chunks: none, two that break a unit, of a length that is told, of bytes; and NULL
pub chunks_are_read :
    map driver_call_of (
    given (0xE7 ∷ 0xFF ∷ 0xFF ∷ collated (chunks (chunk 0 [])))
    ∷ given (0xE7 ∷ 0xFF ∷ 0xFF ∷ collated (chunks (chunk 3 (0x61 ∷ 0 ∷ 0x62 ∷ chunk 1 (1 ∷ chunk 0 [])))))
    ∷ given (0xE7 ∷ 0xFF ∷ 0xFF ∷ collated (2 ∷ 0 ∷ 0 ∷ 0 ∷ 0 ∷ 0 ∷ 0 ∷ 0 ∷ chunk 2 (0x61 ∷ 0 ∷ chunk 0 [])))
    ∷ given (0xE7 ∷ 0xFF ∷ 0xFF ∷ collated (0 ∷ 0 ∷ 0 ∷ 0 ∷ 0 ∷ 0 ∷ 0 ∷ 0 ∷ chunk 0 []))
    ∷ given (0xA7 ∷ 0xFF ∷ 0xFF ∷ collated (chunks (chunk 1 (0x61 ∷ chunk 2 (0x80 ∷ 0x9F ∷ chunk 0 [])))))
    ∷ given (0xE7 ∷ 0xFF ∷ 0xFF ∷ collated (0xFF ∷ 0xFF ∷ 0xFF ∷ 0xFF ∷ 0xFF ∷ 0xFF ∷ 0xFF ∷ 0xFF ∷ []))
    ∷ given (0xA7 ∷ 0xFF ∷ 0xFF ∷ collated (0xFF ∷ 0xFF ∷ 0xFF ∷ 0xFF ∷ 0xFF ∷ 0xFF ∷ 0xFF ∷ 0xFF ∷ []))
    ∷ [])
    ≡ (gives (NText 4000) (Text [])
    ∷ gives (NText 4000) (Text (0x61 ∷ 0x162 ∷ []))
    ∷ gives (NText 4000) (Text (codes "a"))
    ∷ gives (NText 4000) (Text [])
    ∷ gives (NText 4000) (Text (0x61 ∷ 0x20AC ∷ 0x178 ∷ []))
    ∷ gives (NText 4000) Null
    ∷ gives (NText 4000) Null
    ∷ [])
unfolding behind_headers byte_at bytes_at filled_of short_at units_at chunk_at chunked_of chunks_at driver_call_at driver_call_of driver_counted_at driver_named_at driver_parameter_at driver_parameters_at driver_tagged_at driver_target_at driver_target_of driver_type_at driver_value_at long_at long_form_at long_long_at long_of number_form_at sized_of text_form_at text_of unit_of_byte whole_driver_call windows_1252
chunks_are_read = refl

-- ---- what is refused

-- types: a float, sizes that are none, MAX of what has none, and one that is cut
pub types_are_refused :
    map driver_call_of (
    given (0x6D ∷ 8 ∷ 0 ∷ []) ∷ given (0x26 ∷ 3 ∷ 0 ∷ []) ∷ given (0x68 ∷ 2 ∷ 0 ∷ [])
    ∷ given (0xE7 ∷ 0 ∷ 0 ∷ collated (0 ∷ 0 ∷ [])) ∷ given (0xE7 ∷ 3 ∷ 0 ∷ collated (0 ∷ 0 ∷ [])) ∷ given (0xE7 ∷ 0x42 ∷ 0x1F ∷ collated (0 ∷ 0 ∷ []))
    ∷ given (0xA7 ∷ 0 ∷ 0 ∷ collated (0 ∷ 0 ∷ [])) ∷ given (0xA7 ∷ 0x41 ∷ 0x1F ∷ collated (0 ∷ 0 ∷ []))
    ∷ given (0xEF ∷ 0xFF ∷ 0xFF ∷ collated (0xFF ∷ 0xFF ∷ [])) ∷ given (0xAF ∷ 0xFF ∷ 0xFF ∷ collated (0xFF ∷ 0xFF ∷ []))
    ∷ given (0xE7 ∷ 0xFE ∷ 0xFF ∷ collated (0 ∷ 0 ∷ []))
    ∷ given [] ∷ given (0xE7 ∷ 2 ∷ 0 ∷ 9 ∷ 4 ∷ 0 ∷ 2 ∷ []) ∷ given (0x63 ∷ 0 ∷ 0 ∷ 0 ∷ 0 ∷ 9 ∷ 4 ∷ 0 ∷ 2 ∷ []) ∷ given (0x26 ∷ [])
    ∷ [])
    ≡ (refused 12 kinds.Kind ∷ refused 12 kinds.Kind ∷ refused 12 kinds.Kind
    ∷ refused 12 kinds.Kind ∷ refused 12 kinds.Kind ∷ refused 12 kinds.Kind
    ∷ refused 12 kinds.Kind ∷ refused 12 kinds.Kind
    ∷ refused 12 kinds.Kind ∷ refused 12 kinds.Kind
    ∷ refused 12 kinds.Kind
    ∷ refused 12 kinds.Cut ∷ refused 12 kinds.Cut ∷ refused 12 kinds.Cut ∷ refused 12 kinds.Cut
    ∷ [])
unfolding behind_headers byte_at bytes_at filled_of short_at units_at chunk_at chunked_of chunks_at driver_call_at driver_call_of driver_counted_at driver_named_at driver_parameter_at driver_parameters_at driver_tagged_at driver_target_at driver_target_of driver_type_at driver_value_at long_at long_form_at long_long_at long_of number_form_at sized_of text_form_at text_of unit_of_byte whole_driver_call windows_1252
types_are_refused = refl

-- values: longer than their type, of half a unit, and cut in their length and behind it; and a second call
pub values_are_refused :
    map driver_call_of (
    given (0x26 ∷ 4 ∷ 3 ∷ 1 ∷ 2 ∷ 3 ∷ [])
    ∷ given (0xE7 ∷ 4 ∷ 0 ∷ collated (6 ∷ 0 ∷ 0x61 ∷ 0 ∷ 0x61 ∷ 0 ∷ 0x61 ∷ 0 ∷ [])) ∷ given (0xE7 ∷ 4 ∷ 0 ∷ collated (3 ∷ 0 ∷ 0x61 ∷ 0 ∷ 0x61 ∷ []))
    ∷ given (0xA7 ∷ 1 ∷ 0 ∷ collated (2 ∷ 0 ∷ 0x61 ∷ 0x61 ∷ [])) ∷ given (0x63 ∷ 0 ∷ 0 ∷ 0 ∷ 0 ∷ collated (1 ∷ 0 ∷ 0 ∷ 0 ∷ 0x61 ∷ []))
    ∷ given (0xE7 ∷ 4 ∷ 0 ∷ collated (4 ∷ [])) ∷ given (0xE7 ∷ 4 ∷ 0 ∷ collated (4 ∷ 0 ∷ 0x61 ∷ []))
    ∷ given (0x63 ∷ 0 ∷ 0 ∷ 0 ∷ 0 ∷ collated (2 ∷ 0 ∷ 0 ∷ [])) ∷ given (0x63 ∷ 0 ∷ 0 ∷ 0 ∷ 0 ∷ collated (2 ∷ 0 ∷ 0 ∷ 0 ∷ 0x61 ∷ []))
    ∷ given (0x68 ∷ 1 ∷ 0 ∷ 0xFF ∷ 0xFF ∷ 0xFF ∷ 10 ∷ 0 ∷ 0 ∷ 0 ∷ [])
    ∷ [])
    ≡ (refused 14 kinds.Value
    ∷ refused 20 kinds.Value ∷ refused 20 kinds.Value
    ∷ refused 20 kinds.Value ∷ refused 22 kinds.Value
    ∷ refused 20 kinds.Cut ∷ refused 22 kinds.Cut
    ∷ refused 22 kinds.Cut ∷ refused 26 kinds.Cut
    ∷ refused 15 kinds.Trailing
    ∷ [])
unfolding behind_headers byte_at bytes_at filled_of short_at units_at chunk_at chunked_of chunks_at driver_call_at driver_call_of driver_counted_at driver_named_at driver_parameter_at driver_parameters_at driver_tagged_at driver_target_at driver_target_of driver_type_at driver_value_at long_at long_form_at long_long_at long_of number_form_at sized_of text_form_at text_of unit_of_byte whole_driver_call windows_1252
values_are_refused = refl

-- chunks: of another length than was told, of half a unit, without their last, and cut in a length, in a chunk and in the length that is told
pub chunks_are_refused :
    map driver_call_of (
    given (0xE7 ∷ 0xFF ∷ 0xFF ∷ collated (4 ∷ 0 ∷ 0 ∷ 0 ∷ 0 ∷ 0 ∷ 0 ∷ 0 ∷ chunk 2 (0x61 ∷ 0 ∷ chunk 0 [])))
    ∷ given (0xA7 ∷ 0xFF ∷ 0xFF ∷ collated (0 ∷ 0 ∷ 0 ∷ 0 ∷ 0 ∷ 0 ∷ 0 ∷ 0 ∷ chunk 1 (0x61 ∷ chunk 0 [])))
    ∷ given (0xE7 ∷ 0xFF ∷ 0xFF ∷ collated (chunks (chunk 1 (0x61 ∷ chunk 0 []))))
    ∷ given (0xE7 ∷ 0xFF ∷ 0xFF ∷ collated (chunks (chunk 2 (0x61 ∷ 0 ∷ []))))
    ∷ given (0xE7 ∷ 0xFF ∷ 0xFF ∷ collated (chunks (2 ∷ 0 ∷ 0 ∷ [])))
    ∷ given (0xE7 ∷ 0xFF ∷ 0xFF ∷ collated (chunks (chunk 3 (0x61 ∷ 0 ∷ []))))
    ∷ given (0xE7 ∷ 0xFF ∷ 0xFF ∷ collated (chunks (0xFF ∷ 0xFF ∷ 0xFF ∷ 0xFF ∷ 0x61 ∷ [])))
    ∷ given (0xE7 ∷ 0xFF ∷ 0xFF ∷ collated (0 ∷ 0 ∷ 0 ∷ 0 ∷ 0 ∷ 0 ∷ 0 ∷ []))
    ∷ [])
    ≡ (refused 20 kinds.Value
    ∷ refused 20 kinds.Value
    ∷ refused 20 kinds.Value
    ∷ refused 34 kinds.Cut
    ∷ refused 28 kinds.Cut
    ∷ refused 32 kinds.Cut
    ∷ refused 32 kinds.Cut
    ∷ refused 20 kinds.Cut
    ∷ [])
unfolding behind_headers byte_at bytes_at filled_of short_at units_at chunk_at chunked_of chunks_at driver_call_at driver_call_of driver_counted_at driver_named_at driver_parameter_at driver_parameters_at driver_tagged_at driver_target_at driver_target_of driver_type_at driver_value_at long_at long_form_at long_long_at long_of number_form_at sized_of text_form_at text_of unit_of_byte whole_driver_call windows_1252
chunks_are_refused = refl

-- ---- Windows-1252

abbrev all_bytes : List ℕ
all_bytes =
    0x80 ∷ 0x81 ∷ 0x82 ∷ 0x83 ∷ 0x84 ∷ 0x85 ∷ 0x86 ∷ 0x87 ∷ 0x88 ∷ 0x89 ∷ 0x8A ∷ 0x8B ∷ 0x8C ∷ 0x8D ∷ 0x8E ∷ 0x8F
    ∷ 0x90 ∷ 0x91 ∷ 0x92 ∷ 0x93 ∷ 0x94 ∷ 0x95 ∷ 0x96 ∷ 0x97 ∷ 0x98 ∷ 0x99 ∷ 0x9A ∷ 0x9B ∷ 0x9C ∷ 0x9D ∷ 0x9E ∷ 0x9F ∷ []

pub letters_are_read : map unit_of_byte all_bytes ≡ windows_1252
unfolding unit_of_byte windows_1252
letters_are_read = refl

pub others_are_read : map unit_of_byte (0 ∷ 0x41 ∷ 0x7F ∷ 0xA0 ∷ 0xE9 ∷ 0xFF ∷ []) ≡ 0 ∷ 0x41 ∷ 0x7F ∷ 0xA0 ∷ 0xE9 ∷ 0xFF ∷ []
unfolding unit_of_byte windows_1252
others_are_read = refl

-- ---- limits

-- a text of bytes, of so many blanks
abbrev blanks : ℕ → ℕ → ℕ → List ℕ
blanks low high count = 0 ∷ 0 ∷ 0xA7 ∷ 0x40 ∷ 0x1F ∷ collated (low ∷ high ∷ replicate count 0x20)

-- a text has at most 4,000 units, but for those of front parameters
pub limits_are_kept :
    map driver_call_of (
    least (by_name 1 (codes "p") (blanks 0xA0 0x0F 4000)) ∷ least (by_name 1 (codes "p") (blanks 0xA1 0x0F 4001))
    ∷ least (by_number 15 (blanks 0xA1 0x0F 4001)) ∷ least (by_number 15 (0 ∷ 0 ∷ 0x26 ∷ 4 ∷ 0 ∷ blanks 0xA1 0x0F 4001))
    ∷ [])
    ≡ (gives (NText 4000) (Text (replicate 4000 0x20)) ∷ refused 20 kinds.Long
    ∷ calls Unprepare (plain (NText 4000) (Text (replicate 4001 0x20)) ∷ []) ∷ refused 25 kinds.Long
    ∷ [])
unfolding behind_headers byte_at bytes_at filled_of short_at units_at chunk_at chunked_of chunks_at driver_call_at driver_call_of driver_counted_at driver_named_at driver_parameter_at driver_parameters_at driver_tagged_at driver_target_at driver_target_of driver_type_at driver_value_at long_at long_form_at long_long_at long_of number_form_at sized_of text_form_at text_of unit_of_byte whole_driver_call windows_1252
limits_are_kept = refl
