use Rattle.std.proofs.Common.{◌++◌, ◌∙◌, take, arith}
use Rattle.std.proofs.KnownBytes.{Appends-trans}
use Rattle.tds_packets.proofs.Sent.{split_further}
use Rattle.tds_client.proofs.writing.write_whole.Goals as goal

pub loop-rest-preserved : goal.loop-rest-preserved
loop-rest-preserved g c =
    let front = c.loop-rest.invariant.0 in
    let n = c.in-Ok.n in
    let rest = c.loop-rest.rest.now in (
      front ++ take n rest,
      split_further c.args.bytes.now front rest n c.loop-rest.invariant.1,
      Appends-trans _ _ _ front (take n rest) c.loop-rest.invariant.2 c.in-Ok.ensures.takes,
      c.in-Ok.ensures.no_fault (λ none. omega arith) ∙ c.loop-rest.invariant.3,
    )
