-- The definitions at the request of 103 bytes that a driver is known to send, behind its packet's header, and
-- at requests beside it.
use Rattle.std.proofs.Common.{◌≡◌, ℕ, List, [], ◌∷◌, ◌++◌, take, drop, false, pos, Ok, Err, refl}
use Rattle.std.specs.Prelude.{codes}
use Rattle.value_types.specs.declared.sql_type.SqlType.TheVariants.{Int, NText}
use Rattle.value_types.specs.declared.value.Value.TheVariants.{Whole, Text}
use Rattle.rpc_requests.specs.declared.call.RpcCall.{RpcCall}
use Rattle.rpc_requests.specs.declared.call.RpcTarget.TheVariants.{ExecuteSql}
use Rattle.rpc_requests.specs.declared.fault.RpcFault.TheVariants.{Bad}
use Rattle.rpc_requests.specs.declared.fault.RpcKind.TheVariants as kinds
use Rattle.rpc_requests.specs.Spelling.{call_bytes}
use Rattle.rpc_requests.specs.Reading.{bytes_at, byte_at, short_at, units_at, sized_at, long_sized_at, tagged_at, type_at, ntext_of, ascii_of, filled_of, value_at, named_at, counted_at, parameter_at, parameters_at, numbered_of, numbered_at, target_of, target_at, call_at, behind_headers, whole_call, rpc_of}

-- the payload
abbrev pub sent : List ℕ
sent =
    0x16 ∷ 0x00 ∷ 0x00 ∷ 0x00 ∷ 0x12 ∷ 0x00 ∷ 0x00 ∷ 0x00 ∷ 0x02 ∷ 0x00 ∷ 0x00 ∷ 0x00 ∷ 0x00 ∷ 0x00 ∷ 0x00 ∷ 0x00
    ∷ 0x00 ∷ 0x00 ∷ 0x01 ∷ 0x00 ∷ 0x00 ∷ 0x00 ∷ 0xFF ∷ 0xFF ∷ 0x0A ∷ 0x00 ∷ 0x00 ∷ 0x00 ∷ 0x00 ∷ 0x00 ∷ 0xE7 ∷ 0x12
    ∷ 0x00 ∷ 0x09 ∷ 0x04 ∷ 0x00 ∷ 0x02 ∷ 0x00 ∷ 0x12 ∷ 0x00 ∷ 0x53 ∷ 0x00 ∷ 0x45 ∷ 0x00 ∷ 0x4C ∷ 0x00 ∷ 0x45 ∷ 0x00
    ∷ 0x43 ∷ 0x00 ∷ 0x54 ∷ 0x00 ∷ 0x20 ∷ 0x00 ∷ 0x40 ∷ 0x00 ∷ 0x61 ∷ 0x00 ∷ 0x00 ∷ 0x00 ∷ 0xE7 ∷ 0x0C ∷ 0x00 ∷ 0x09
    ∷ 0x04 ∷ 0x00 ∷ 0x02 ∷ 0x00 ∷ 0x0C ∷ 0x00 ∷ 0x40 ∷ 0x00 ∷ 0x61 ∷ 0x00 ∷ 0x20 ∷ 0x00 ∷ 0x49 ∷ 0x00 ∷ 0x4E ∷ 0x00
    ∷ 0x54 ∷ 0x00 ∷ 0x02 ∷ 0x40 ∷ 0x00 ∷ 0x61 ∷ 0x00 ∷ 0x00 ∷ 0x26 ∷ 0x04 ∷ 0x04 ∷ 0x05 ∷ 0x00 ∷ 0x00 ∷ 0x00 ∷ []

-- what it says: `SELECT @a` with `@a INT` and 5
abbrev pub said : RpcCall
said = record {
  target = ExecuteSql;
  parameters =
      record { name = []; output = false; missing = false; kind = NText 9; value = Text (codes "SELECT @a") }
      ∷ record { name = []; output = false; missing = false; kind = NText 6; value = Text (codes "@a INT") }
      ∷ record { name = codes "@a"; output = false; missing = false; kind = Int; value = Whole (pos 5) }
      ∷ [];
}

pub said_is_spelled : call_bytes said ≡ drop 22 sent
said_is_spelled = refl

pub sent_is_read : rpc_of sent ≡ Ok said
unfolding bytes_at byte_at short_at units_at sized_at long_sized_at tagged_at type_at ntext_of ascii_of filled_of value_at named_at counted_at parameter_at parameters_at numbered_of numbered_at target_of target_at call_at behind_headers whole_call rpc_of
sent_is_read = refl

-- without its last byte the value of the third parameter is cut
pub sent_is_cut : rpc_of (take 94 sent) ≡ Err (Bad 91 kinds.Cut)
unfolding bytes_at byte_at short_at units_at sized_at long_sized_at tagged_at type_at ntext_of ascii_of filled_of value_at named_at counted_at parameter_at parameters_at numbered_of numbered_at target_of target_at call_at behind_headers whole_call rpc_of
sent_is_cut = refl

-- with the number of another procedure
pub sent_is_no_procedure : rpc_of (take 24 sent ++ 11 ∷ drop 25 sent) ≡ Err (Bad 24 kinds.Procedure)
unfolding bytes_at byte_at short_at units_at sized_at long_sized_at tagged_at type_at ntext_of ascii_of filled_of value_at named_at counted_at parameter_at parameters_at numbered_of numbered_at target_of target_at call_at behind_headers whole_call rpc_of
sent_is_no_procedure = refl

-- with a second call behind the first
pub sent_is_two : rpc_of (sent ++ 0xFF ∷ drop 22 sent) ≡ Err (Bad 95 kinds.Trailing)
unfolding bytes_at byte_at short_at units_at sized_at long_sized_at tagged_at type_at ntext_of ascii_of filled_of value_at named_at counted_at parameter_at parameters_at numbered_of numbered_at target_of target_at call_at behind_headers whole_call rpc_of
sent_is_two = refl
