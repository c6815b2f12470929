use Rattle.std.proofs.Common.{◌≡◌, length}
use Rattle.rpc_requests.proofs.Chunks.{onto, all_from, all_chunks}
use Rattle.rpc_requests.proofs.driver_values.chunks_at.Given as goal

-- the bytes so far, this chunk, and those that are left, are all
abbrev pub invariant-loop-chunk : goal.invariant-loop-chunk
invariant-loop-chunk l = onto l.joined.items (all_from l.chunk l.rest) ≡ all_chunks l.bytes

abbrev pub decreases-loop-chunk : goal.decreases-loop-chunk
decreases-loop-chunk l = length l.rest
