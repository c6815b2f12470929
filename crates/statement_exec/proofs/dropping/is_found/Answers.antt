use Rattle.statement_exec.proofs.DropWays.{found_none}
use Rattle.statement_exec.proofs.dropping.is_found.Goals as goal

pub returns-in-Some : goal.returns-in-Some
returns-in-Some c = rw c.in-Some.is c.is_called.ensures

pub returns-in-None : goal.returns-in-None
returns-in-None c = rw c.in-None.is (found_none c.args.kind c.args.name.now)
