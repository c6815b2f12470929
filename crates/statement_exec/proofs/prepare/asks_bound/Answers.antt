use Rattle.std.proofs.Common.{refl}
use Rattle.statement_exec.proofs.prepare.asks_bound.Goals as goal

pub returns-in-Write : goal.returns-in-Write
returns-in-Write c = rw c.in-Write.is refl

pub returns-in-Query : goal.returns-in-Query
returns-in-Query c = rw c.in-Query.is (rw c.in-Query.is at c.fetches.ensures)

pub returns-in-Assign : goal.returns-in-Assign
returns-in-Assign c = rw c.in-Assign.is (rw c.in-Assign.is at c.fetches-in-Assign.ensures)

pub returns-in-Plain : goal.returns-in-Plain
returns-in-Plain c = rw c.in-Plain.is refl
