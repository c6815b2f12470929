use Rattle.statement_exec.proofs.Parts.{does_own, does_own_not}
use Rattle.statement_exec.proofs.creating.create_named.Goals as goal

pub returns-in_err-home-clause-does : goal.returns-in_err-home-clause-does
returns-in_err-home-clause-does g c = does_own_not _ _ _ c.from_residual.ensures.0 c.from_residual.ensures.1 c.in_err-home.ensures.does

pub returns-clause-does : goal.returns-clause-does
returns-clause-does g c = does_own _ _ c.in_ok-home.ensures.does c.create_in-came.ensures.does (rw c.is_ok.ensures.value at c.leave.ensures.does)
