use Rattle.std.proofs.Common.{Err, inr, refl, ap}
use Rattle.statement_exec.proofs.prepare.bound_in.Goals as goal

pub returns-then-may_go_on-clause-came : goal.returns-then-may_go_on-clause-came
returns-then-may_go_on-clause-came c = rw (c.in-Ok.is, c.vars.ensures.vars) at c.bound_over.ensures

pub returns-then-may_go_on-clause-begun : goal.returns-then-may_go_on-clause-begun
returns-then-may_go_on-clause-begun c = c.if-may_go_on.ensures refl

pub returns-else-may_go_on-clause-came : goal.returns-else-may_go_on-clause-came
returns-else-may_go_on-clause-came c = inr (ap Err c.no_memory.ensures)

pub returns-in-Err-clause-came : goal.returns-in-Err-clause-came
returns-in-Err-clause-came c = rw (c.in-Err.is, c.vars.ensures.vars) at c.bound_over.ensures
