use Rattle.std.proofs.Common.{Err, inr, ap}
use Rattle.statement_exec.proofs.Changes.{dropped_or}
use Rattle.statement_exec.proofs.dropping.plan_drop.Goals as goal

pub returns-in-Ok : goal.returns-in-Ok
returns-in-Ok c = dropped_or c.args.definitions.now c.args.name.now _ _ _ (rw c.in-Ok.ensures at c.plan_with-planned.ensures) c.dropped_as.ensures

pub returns-in-Err : goal.returns-in-Err
returns-in-Err c = inr (ap Err c.no_memory.ensures)
