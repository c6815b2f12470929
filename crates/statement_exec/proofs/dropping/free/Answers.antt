use Rattle.statement_exec.proofs.DropWays.{free_so, parent_so}
use Rattle.statement_exec.proofs.dropping.free.Goals as goal

pub returns-then-is_referred : goal.returns-then-is_referred
returns-then-is_referred c = parent_so c.args.name.now c.args.definitions.now _ c.if-is_referred.ensures c.naming.ensures

pub returns : goal.returns
returns c = free_so c.args.name.now c.args.definitions.now c.if-is_referred.ensures
