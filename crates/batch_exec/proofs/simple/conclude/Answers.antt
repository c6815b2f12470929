use Rattle.session_state.proofs.Stepping.{does_stepped}
use Rattle.batch_exec.proofs.simple.conclude.Goals as goal

pub returns-in-Ok-clause-does : goal.returns-in-Ok-clause-does
returns-in-Ok-clause-does g c = rw c.in-Ok.is (does_stepped c.succeed.ensures.came)

pub returns-in-Err-clause-does : goal.returns-in-Err-clause-does
returns-in-Err-clause-does g c = rw c.in-Err.is c.fail.ensures.does
