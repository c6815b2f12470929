use Rattle.std.proofs.Common.{◌≡◌, true, false, sym, ap, ◌∙◌}
use Rattle.batch_meaning.specs.Drivers.{are_many, shed}
use Rattle.batch_meaning.proofs.Kept.{sheds, sheds_none}
use Rattle.batch_meaning.proofs.prepared.shed.Goals as goal

pub loop-kept-preserved : goal.loop-kept-preserved
loop-kept-preserved c =
    let kept = c.loop-kept.kept.items in
    let many : are_many kept ≡ true = ap are_many (sym c.as_slice.ensures.value) ∙ sym c.are_many.ensures ∙ c.loop-kept-test.true in
    ap shed c.remove-oldest.ensures.items ∙ sheds kept many ∙ c.loop-kept.invariant

pub returns : goal.returns
returns c =
    let kept = c.loop-kept.kept.items in
    let few : are_many kept ≡ false = ap are_many (sym c.as_slice.ensures.value) ∙ sym c.are_many.ensures ∙ c.loop-kept-test.false in
    sheds_none kept few ∙ c.loop-kept.invariant
