use Rattle.lock_table.proofs.Lists.{pair_listed}
use Rattle.lock_table.proofs.LockTable.pair.Goals as goal

pub returns : goal.returns
returns c = rw (← c.self.view_is, c.pair.ensures) (pair_listed c.self.inside.by_session c.self.inside.index c.self.invariant c.args.on.now c.args.session)
