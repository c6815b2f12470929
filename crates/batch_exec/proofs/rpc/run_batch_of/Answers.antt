use Rattle.batch_meaning.proofs.Composed.{does_leave, does_then}
use Rattle.batch_exec.proofs.Requests.{batch_left}
use Rattle.batch_exec.proofs.rpc.run_batch_of.Goals as goal

pub returns-in_err-exit-clause-does : goal.returns-in_err-exit-clause-does
returns-in_err-exit-clause-does g c = does_leave _ _ _ c.from_residual.ensures.0 c.in_err-exit.ensures.does

pub returns-in-On-clause-does : goal.returns-in-On-clause-does
returns-in-On-clause-does g c = does_then _ _ (rw c.in-On.is at c.in_ok-exit.ensures.does) c.tell_well.ensures.does

pub returns-in_default-clause-does : goal.returns-in_default-clause-does
returns-in_default-clause-does g c = does_then _ _ c.in_ok-exit.ensures.does (batch_left c.args.call.now _ c.in_default.not-On)
