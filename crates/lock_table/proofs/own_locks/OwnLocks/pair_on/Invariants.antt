use Rattle.std.proofs.Common.{◌≡◌, drop, filter}
use Rattle.lock_modes.specs.Join.{join_pairs}
use Rattle.step_model.specs.Locks.{pair_on}
use Rattle.lock_table.specs.BySession.{is_of}
use Rattle.lock_table.proofs.own_locks.OwnLocks.pair_on.Given as goal

abbrev pub invariant-loop-lock : goal.invariant-loop-lock
invariant-loop-lock l = join_pairs l.pair (pair_on l.on (filter (is_of l.span) (drop l.lock-index l.lock-items))) ≡ pair_on l.on (filter (is_of l.span) l.lock-items)
