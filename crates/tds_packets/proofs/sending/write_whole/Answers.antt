use Rattle.std.proofs.Common.{◌++◌, ◌∙◌, take, arith}
use Rattle.std.proofs.KnownBytes.{Appends-trans}
use Rattle.tds_packets.proofs.Sent.{split_further}
use Rattle.tds_packets.proofs.sending.write_whole.Goals as goal

pub loop-rest-preserved : goal.loop-rest-preserved
loop-rest-preserved g c =
    let front = c.loop-rest.invariant.0 in
    let n = c.in-Ok.n in
    let rest = c.loop-rest.rest.now in (
      front ++ take n rest,
      split_further c.args.bytes.now front rest n c.loop-rest.invariant.1,
      Appends-trans _ _ _ front (take n rest) c.loop-rest.invariant.2 c.in-Ok.ensures.takes,
      c.in-Ok.ensures.no_fault (λ none. omega arith) ∙ c.loop-rest.invariant.3,
      c.write.ensures.beside ∙ c.loop-rest.invariant.4,
      λ some none. c.in-Ok.ensures.quiet (omega (arith, c.loop-rest.invariant.3, some)) (c.loop-rest.invariant.5 some none),
    )
