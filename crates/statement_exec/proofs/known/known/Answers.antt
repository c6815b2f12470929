use Rattle.statement_exec.proofs.Looking.{known_other, known_outside, known_read, known_written}
use Rattle.statement_exec.proofs.known.known.Goals as goal

pub returns-then-not-is_of_trigger : goal.returns-then-not-is_of_trigger
returns-then-not-is_of_trigger c = known_other _ _ _ _ (rw c.in-Some.is at c.fired.ensures) c.if-not-is_of_trigger.ensures

pub returns-then-is_read_by : goal.returns-then-is_read_by
returns-then-is_read_by c = known_read _ _ _ _ (rw c.in-Some.is at c.fired.ensures) c.if-not-is_of_trigger.ensures c.if-is_read_by.ensures

pub returns-else-is_read_by : goal.returns-else-is_read_by
returns-else-is_read_by c = known_written _ _ _ _ (rw c.in-Some.is at c.fired.ensures) c.if-not-is_of_trigger.ensures c.if-is_read_by.ensures

pub returns-in-None : goal.returns-in-None
returns-in-None c = known_outside _ _ _ (rw c.in-None.is at c.fired.ensures)
