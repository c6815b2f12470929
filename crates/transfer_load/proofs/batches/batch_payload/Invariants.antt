use Rattle.std.proofs.Common.{◌≡◌, ◌++◌, take}
use Rattle.value_types.specs.Units.{le_bytes_of}
use Rattle.transfer_load.specs.Batches.{all_headers}
use Rattle.transfer_load.proofs.batches.batch_payload.Given as goal

-- the units so far stand behind the headers
abbrev pub invariant-loop-byte : goal.invariant-loop-byte
invariant-loop-byte l = l.payload.items ≡ all_headers ++ le_bytes_of (take l.byte-index l.text)
