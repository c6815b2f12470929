use Rattle.std.proofs.Common.{true, false, Ok, Err, ap}
use Rattle.session_state.proofs.Stepping.{stepped_made, stepped_room}
use Rattle.statement_exec.proofs.Telling.{stepped_fits, stepped_full}
use Rattle.statement_exec.proofs.databases.tell.Goals as goal

pub returns-in-Ok-clause-came : goal.returns-in-Ok-clause-came
returns-in-Ok-clause-came c = stepped_room true (stepped_full _ _ (rw c.in-Ok.ensures at c.if-is_full.ensures) c.plain.ensures)

pub returns-in-Ok-2-clause-came : goal.returns-in-Ok-2-clause-came
returns-in-Ok-2-clause-came c = stepped_room true (stepped_fits _ _ (rw c.in-Ok.ensures at c.if-is_full.ensures) (stepped_made (ap Ok (rw c.in-Ok.ensures at c.sending.ensures))))

pub returns-in-Err-clause-came : goal.returns-in-Err-clause-came
returns-in-Err-clause-came c = stepped_room false (stepped_made (ap Err c.no_memory.ensures))
