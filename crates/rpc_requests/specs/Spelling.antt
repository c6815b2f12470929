-- [MS-TDS] 2.2.6.6: the bytes of an RPC request behind its headers, as a client of this crate sends them. Types
-- and values have the bytes that they have in tokens.
use Rattle.std.specs.Prelude.{ℕ, ◌+◌, Bool, if◌then◌else◌, List, ◌∷◌, ◌++◌, length}
use Rattle.std.specs.List.{flat_map}
use Rattle.std.specs.Int.{w16, to_le_bytes}
use Rattle.value_types.specs.Units.{le_bytes_of}
use Rattle.tds_tokens.specs.Spelling.{type_info, value_bytes}
use Rattle.rpc_requests.specs.declared.call.RpcCall.{RpcCall}
use Rattle.rpc_requests.specs.declared.call.RpcParameter.{RpcParameter}
use Rattle.rpc_requests.specs.declared.call.RpcTarget.{RpcTarget}
use Rattle.rpc_requests.specs.declared.call.RpcTarget.TheVariants.{Named, ExecuteSql}

-- the type of texts of bytes (2.2.5.4.3)
abbrev pub bigvarchartype : ℕ
bigvarchartype = 0xA7

-- the length of a text that stands for NULL
abbrev pub charbin_null : ℕ
charbin_null = 0xFFFF

-- ---- calls

-- in place of a name's count: a procedure's number follows
abbrev pub by_number : ℕ
by_number = 0xFFFF

-- the number of sp_executesql
abbrev pub sp_executesql : ℕ
sp_executesql = 10

-- the bit of a status: the parameter is an output
abbrev pub by_ref : ℕ
by_ref = 0x01

-- the bit of a status: the parameter has its default
abbrev pub default_value : ℕ
default_value = 0x02

-- the procedure: its name, or its number
abbrev pub target_bytes : RpcTarget → List ℕ
target_bytes (Named name) = to_le_bytes w16 (length name) ++ le_bytes_of name
target_bytes ExecuteSql = to_le_bytes w16 by_number ++ to_le_bytes w16 sp_executesql

-- the bits that hold of a parameter
abbrev pub status_of : Bool → Bool → ℕ
status_of output missing = (if output then by_ref else 0) + (if missing then default_value else 0)

-- a parameter: its name, status, type and value
abbrev pub parameter_bytes : RpcParameter → List ℕ
parameter_bytes parameter =
    (length parameter.name ∷ le_bytes_of parameter.name)
    ++ (status_of parameter.output parameter.missing ∷ type_info parameter.kind ++ value_bytes parameter.kind parameter.value)

-- a call behind its headers: the procedure, the option flags, which are none, and the parameters
abbrev pub call_bytes : RpcCall → List ℕ
call_bytes call = target_bytes call.target ++ to_le_bytes w16 0 ++ flat_map parameter_bytes call.parameters
