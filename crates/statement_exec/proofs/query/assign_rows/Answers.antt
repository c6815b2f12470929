use Rattle.std.proofs.Common.{false, Err, ap}
use Rattle.session_state.proofs.Assigning.{stepped_rows}
use Rattle.session_state.proofs.Stepping.{stepped_made, stepped_room}
use Rattle.statement_exec.proofs.query.assign_rows.Goals as goal

pub returns-in-Ok-clause-came : goal.returns-in-Ok-clause-came
returns-in-Ok-clause-came c = stepped_rows _ _ _ _ (rw c.vars.ensures.vars at c.in-Ok.ensures.came) c.assign_or_stop.ensures.came

pub returns-in-Err-clause-came : goal.returns-in-Err-clause-came
returns-in-Err-clause-came c = stepped_room false (stepped_made (ap Err c.no_memory.ensures))
