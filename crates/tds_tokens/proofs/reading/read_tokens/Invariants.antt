use Rattle.std.proofs.Common.{length}
use Rattle.tds_tokens.proofs.Streams.{IsReadSoFar}
use Rattle.tds_tokens.proofs.reading.read_tokens.Given as goal

abbrev pub invariant-loop-rest : goal.invariant-loop-rest
invariant-loop-rest l = IsReadSoFar l.bytes l.tokens.items l.rest l.described

abbrev pub decreases-loop-rest : goal.decreases-loop-rest
decreases-loop-rest l = length l.rest
