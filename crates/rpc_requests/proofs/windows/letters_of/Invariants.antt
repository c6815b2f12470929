use Rattle.std.proofs.Common.{◌≡◌, map, take}
use Rattle.rpc_requests.specs.Drivers.{unit_of_byte}
use Rattle.rpc_requests.proofs.windows.letters_of.Given as goal

-- the units so far are those of the bytes so far
abbrev pub invariant-loop-byte : goal.invariant-loop-byte
invariant-loop-byte l = l.units.items ≡ map unit_of_byte (take l.byte-index l.bytes)
