use Rattle.std.proofs.Common.{refl}
use Rattle.group_rows.specs.declared.keyed.Keyed.{Keyed}
use Rattle.group_rows.proofs.Gathering.{Kept-next}
use Rattle.group_rows.proofs.equals.are_firsts.Goals as goal

pub loop-row-preserved : goal.loop-row-preserved
loop-row-preserved c =
    let key : Keyed = record { row = record { ref_ptr = (0, 0); now = c.row-item.result } } in
    rw c.in_ok-push.ensures.items
    (Kept-next c.args.rows.now c.loop-row.row-index c.row-item.result c.loop-row.kept.items _ _ key c.in_ok-insert.field-0 c.loop-row-test.true c.row-item.is refl c.loop-row.invariant c.in_ok-insert.ensures.added c.in_ok-insert.ensures.updates.0)
