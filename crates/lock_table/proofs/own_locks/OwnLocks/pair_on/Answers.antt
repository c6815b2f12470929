use Rattle.std.proofs.Common.{◌∙◌, sym}
use Rattle.lock_table.proofs.Joins.{join_next}
use Rattle.lock_table.proofs.own_locks.OwnLocks.pair_on.Goals as goal

pub loop-lock-preserved : goal.loop-lock-preserved
loop-lock-preserved c =
    let more = join_next c.args.span c.args.on.now c.deref-lock-items.result.now c.loop-lock.lock-index c.lock-item.result c.loop-lock.pair c.loop-lock-test.true c.lock-item.is in
    rw c.added_to-pair.ensures (sym more ∙ c.loop-lock.invariant)
