use Rattle.std.proofs.Common.{◌≡◌, ◌≢◌, ◌<◌, ℕ, true}
use Rattle.lock_modes.specs.Agreement.{pairs_agree}
use Rattle.lock_table.specs.Table.{pair_at}
use Rattle.lock_table.proofs.pairs.Pairs.foe.Given as goal

abbrev pub invariant-loop-other : goal.invariant-loop-other
invariant-loop-other l = (lower : ℕ) → lower < l.other → lower ≢ l.session → pairs_agree (pair_at lower l.self) l.asked ≡ true
