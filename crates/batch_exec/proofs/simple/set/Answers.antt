use Rattle.std.proofs.Common.{sym}
use Rattle.batch_exec.proofs.Runs.{does_set, does_unset}
use Rattle.session_state.proofs.Stepping.{does_stepped}
use Rattle.batch_exec.proofs.simple.set.Goals as goal

pub returns-in-Ok-clause-does : goal.returns-in-Ok-clause-does
returns-in-Ok-clause-does g c = does_set c.args.around.now c.args.statement.now c.args.option _ (sym (rw c.settings.ensures at c.in-Ok.ensures.set)) c.set.ensures (does_stepped (rw c.none.ensures at c.succeed.ensures.came))

pub returns-in-Err-clause-does : goal.returns-in-Err-clause-does
returns-in-Err-clause-does g c = does_unset c.args.around.now c.args.statement.now c.args.option _ (sym (rw c.settings.ensures at c.in-Err.ensures.set)) c.fail.ensures.does
