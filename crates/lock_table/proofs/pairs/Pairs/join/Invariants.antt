use Rattle.std.proofs.Common.{◌≡◌, ◌<◌, ◌≤◌, ℕ}
use Rattle.lock_modes.specs.Join.{join_pairs}
use Rattle.lock_table.specs.Table.{pair_at}
use Rattle.lock_table.proofs.pairs.Pairs.join.Given as goal

abbrev pub invariant-loop-session : goal.invariant-loop-session
invariant-loop-session l = record {
  done : (who : ℕ) → who < l.session → pair_at who l.self ≡ join_pairs (pair_at who l.initial.self) (pair_at who l.others);
  left : (who : ℕ) → l.session ≤ who → pair_at who l.self ≡ pair_at who l.initial.self;
}
