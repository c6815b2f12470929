use Rattle.std.proofs.Common.{◌≡◌, rules}
use Rattle.lock_modes.specs.Modes.{none}
use Rattle.lock_table.specs.Table.{pair_at}
use Rattle.lock_table.proofs.Numbers.{none_at_all, one_more}
use Rattle.lock_table.proofs.pairs.Pairs.is_empty.Goals as goal

pub loop-pair-preserved : goal.loop-pair-preserved
loop-pair-preserved c = one_more (λ k. pair_at k c.self.inside.by_session ≡ none) c.loop-pair.pair-index c.loop-pair.invariant (search rules)

pub returns : goal.returns
returns c _ = rw (← c.self.view_is) (none_at_all c.self.inside.by_session (λ k below. c.loop-pair.invariant k (search rules)))
