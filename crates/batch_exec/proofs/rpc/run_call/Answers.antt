use Rattle.std.proofs.Common.{refl}
use Rattle.batch_meaning.specs.Rpc.{ends_rpc, ends_rpc_doomed, rpc}
use Rattle.batch_meaning.proofs.Composed.{does_leave, does_makes, does_out, does_then}
use Rattle.batch_exec.proofs.rpc.run_call.Goals as goal

pub returns-in_err-vars-clause-does : goal.returns-in_err-vars-clause-does
returns-in_err-vars-clause-does g c = does_out _ c.from_residual.ensures.0 refl

pub returns-in_err-exit-clause-does : goal.returns-in_err-exit-clause-does
unfolding rpc
returns-in_err-exit-clause-does g c = does_makes (rw c.in_ok-vars.ensures at c.begin_batch.ensures) (does_makes c.begin_statement.ensures (does_leave _ _ _ c.from_residual-in_err-exit.ensures.0 c.in_err-exit.ensures.does))

pub returns-clause-does : goal.returns-clause-does
unfolding rpc ends_rpc ends_rpc_doomed
returns-clause-does g c = does_makes (rw c.in_ok-vars.ensures at c.begin_batch.ensures) (does_makes c.begin_statement.ensures (does_then _ _ c.in_ok-exit.ensures.does c.end.ensures.does))
