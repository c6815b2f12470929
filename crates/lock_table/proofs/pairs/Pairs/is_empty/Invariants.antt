use Rattle.std.proofs.Common.{◌≡◌, ◌<◌, ℕ}
use Rattle.lock_modes.specs.Modes.{none as no_lock}
use Rattle.lock_table.specs.Table.{pair_at}
use Rattle.lock_table.proofs.pairs.Pairs.is_empty.Given as goal

abbrev pub invariant-loop-pair : goal.invariant-loop-pair
invariant-loop-pair l = (k : ℕ) → k < l.pair-index → pair_at k l.pair-items ≡ no_lock
