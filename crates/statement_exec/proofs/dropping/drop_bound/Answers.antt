use Rattle.statement_exec.proofs.Parts.{does_failed, does_read, does_read_on}
use Rattle.statement_exec.proofs.dropping.drop_bound.Goals as goal

pub returns-in-Ok-clause-does : goal.returns-in-Ok-clause-does
returns-in-Ok-clause-does g c = does_read_on _ _ (rw (c.in-Ok.is, c.vars.ensures.vars) at c.bound_over.ensures) c.drop_found.ensures.does

pub returns-in-Err-clause-does : goal.returns-in-Err-clause-does
returns-in-Err-clause-does g c = does_failed _ _ (does_read _ _ (rw (c.in-Err.is, c.vars.ensures.vars) at c.bound_over.ensures))
