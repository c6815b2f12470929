use Rattle.std.proofs.Common.{◌≡◌, eqb, length, sym, ◌∙◌}
use Rattle.std.specs.Prelude.{false}
use Rattle.std.proofs.lemmas.Result.{err_from_is_err_and}
use Rattle.rpc_requests.proofs.Chunks.{all_chunks, begins, ends, fails, goes_on, is_done}
use Rattle.rpc_requests.proofs.driver_values.chunks_at.Goals as goal

pub returns-in_err-chunk : goal.returns-in_err-chunk
returns-in_err-chunk c =
    let p = err_from_is_err_and c.from_residual.result c.from_residual.ensures.1 in
    rw (p.1, p.2) (fails c.in_err-chunk.field-0.0 c.args.bytes.now c.in_err-chunk.ensures)

pub loop-chunk-init : goal.loop-chunk-init
loop-chunk-init c = rw c.new-joined.ensures.items (begins c.args.bytes.now c.in_ok-chunk.chunk.now c.in_ok-chunk.rest.now c.in_ok-chunk.ensures)

pub returns-in_err-next : goal.returns-in_err-next
returns-in_err-next c =
    let p = err_from_is_err_and c.from_residual-in_err-next.result c.from_residual-in_err-next.ensures.1 in
    let some : eqb (length c.loop-chunk.chunk.now) 0 ≡ false = sym c.is_empty.ensures ∙ c.loop-chunk-test.true in
    rw (p.1, p.2) (ends c.in_err-next.field-0.0 c.loop-chunk.joined.items c.loop-chunk.chunk.now c.loop-chunk.rest.now (all_chunks c.args.bytes.now) some c.in_err-next.ensures c.loop-chunk.invariant)

pub loop-chunk-smaller : goal.loop-chunk-smaller
loop-chunk-smaller c =
    let rest = c.loop-chunk.rest.now in
    let some : eqb (length c.loop-chunk.chunk.now) 0 ≡ false = sym c.is_empty.ensures ∙ c.loop-chunk-test.true in
    (goes_on c.loop-chunk.joined.items c.loop-chunk.chunk.now rest c.in_ok-next.next.now c.in_ok-next.behind.now (all_chunks c.args.bytes.now) some c.in_ok-next.ensures c.loop-chunk.invariant).1

pub loop-chunk-preserved : goal.loop-chunk-preserved
loop-chunk-preserved c =
    let rest = c.loop-chunk.rest.now in
    let some : eqb (length c.loop-chunk.chunk.now) 0 ≡ false = sym c.is_empty.ensures ∙ c.loop-chunk-test.true in
    rw c.in_ok-extend_from_slice.ensures.items
    (goes_on c.loop-chunk.joined.items c.loop-chunk.chunk.now rest c.in_ok-next.next.now c.in_ok-next.behind.now (all_chunks c.args.bytes.now) some c.in_ok-next.ensures c.loop-chunk.invariant).0

pub returns : goal.returns
returns c =
    is_done c.loop-chunk.joined.items c.loop-chunk.chunk.now c.loop-chunk.rest.now (all_chunks c.args.bytes.now) (sym c.is_empty.ensures ∙ c.loop-chunk-test.false) c.loop-chunk.invariant
