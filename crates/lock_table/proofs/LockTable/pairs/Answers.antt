use Rattle.std.proofs.Common.{◌∙◌}
use Rattle.lock_table.proofs.Lists.{pair_listed}
use Rattle.lock_table.proofs.LockTable.pairs.Goals as goal

pub returns : goal.returns
returns c session = rw (← c.self.view_is) (c.pairs.ensures session ∙ pair_listed c.self.inside.by_session c.self.inside.index c.self.invariant c.args.on.now session)
