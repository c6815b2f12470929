use Rattle.statement_exec.proofs.Preparing.{bound_so, unbound_so}
use Rattle.statement_exec.proofs.prepare.bind_first.Goals as goal

pub returns-in-Ok : goal.returns-in-Ok
returns-in-Ok c = bound_so _ _ (rw (c.in-Ok.is, c.vars.ensures.vars) at c.bound_over.ensures)

pub returns-in-Err : goal.returns-in-Err
returns-in-Err c = unbound_so _ _ (rw (c.in-Err.is, c.vars.ensures.vars) at c.bound_over.ensures)
