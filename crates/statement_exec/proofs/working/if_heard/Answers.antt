use Rattle.std.proofs.Common.{true, false, Err, ap, refl}
use Rattle.session_state.proofs.Stepping.{stepped_made, stepped_over, stepped_room}
use Rattle.statement_exec.proofs.Telling.{stepped_fits, stepped_full}
use Rattle.statement_exec.proofs.working.if_heard.Goals as goal

pub returns-in-Ok : goal.returns-in-Ok
returns-in-Ok c = stepped_room true (stepped_full _ _ (rw (c.in-Ok.ensures, c.get.ensures) at c.if-is_full.ensures) c.plain.ensures)

pub returns-in-Ok-2 : goal.returns-in-Ok-2
returns-in-Ok-2 c = stepped_room true (stepped_fits _ _ (rw (c.in-Ok.ensures, c.get.ensures) at c.if-is_full.ensures) (stepped_over refl))

pub returns-in-Err : goal.returns-in-Err
returns-in-Err c = stepped_room false (stepped_made (ap Err c.no_memory.ensures))
