use Rattle.std.proofs.Common.{true, false, Err, Ok, ap}
use Rattle.session_state.proofs.Stepping.{stepped_made, stepped_makes, stepped_room}
use Rattle.statement_exec.proofs.cursors.keep_rows.Goals as goal

pub fill_cursor-requires : goal.fill_cursor-requires
fill_cursor-requires c = rw c.in-Ok.ensures c.requires.typed

pub returns-in-Ok-clause-came : goal.returns-in-Ok-clause-came
returns-in-Ok-clause-came c = stepped_room true (stepped_makes (rw c.in-Ok.ensures at c.fill_cursor.ensures) (stepped_made (ap Ok c.none.ensures)))

pub returns-in-Err-clause-came : goal.returns-in-Err-clause-came
returns-in-Err-clause-came c = stepped_room false (stepped_made (ap Err c.no_memory.ensures))
