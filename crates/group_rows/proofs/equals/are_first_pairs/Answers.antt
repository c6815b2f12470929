use Rattle.std.proofs.Common.{refl}
use Rattle.group_rows.specs.declared.keyed.Keyed.{Keyed}
use Rattle.group_rows.proofs.Gathering.{Kept-next_pair}
use Rattle.group_rows.proofs.equals.are_first_pairs.Goals as goal

pub loop-pair-preserved : goal.loop-pair-preserved
loop-pair-preserved c =
    let key : Keyed = record { row = record { ref_ptr = (0, 0); now = c.pair-item.result.1 } } in
    rw c.in_ok-push.ensures.items
    (Kept-next_pair c.args.pairs.now c.loop-pair.pair-index c.pair-item.result c.loop-pair.kept.items _ _ key c.in_ok-insert.field-0 c.loop-pair-test.true c.pair-item.is refl c.loop-pair.invariant c.in_ok-insert.ensures.added c.in_ok-insert.ensures.updates.0)
