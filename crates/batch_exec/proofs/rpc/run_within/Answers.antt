use Rattle.std.proofs.Common.{◌≡◌, refl, true}
use Rattle.batch_meaning.specs.Rpc.{binds_call, rpc_arguments}
use Rattle.batch_meaning.proofs.Composed.{does_out, does_room, does_then}
use Rattle.batch_exec.proofs.Called.{does_bound_call}
use Rattle.batch_exec.proofs.Requests.{called_with}
use Rattle.batch_exec.proofs.rpc.run_within.Goals as goal

pub returns-in_err-name-clause-does : goal.returns-in_err-name-clause-does
returns-in_err-name-clause-does g c = does_out _ c.from_residual.ensures.0 refl

pub returns-in_err-statement-clause-does : goal.returns-in_err-statement-clause-does
returns-in_err-statement-clause-does g c = does_out _ c.from_residual-in_err-statement.ensures.0 refl

pub returns-clause-does : goal.returns-clause-does
unfolding binds_call
returns-clause-does g c =
    let given : c.arguments_in-arguments.result.now ≡ rpc_arguments c.args.call.now = called_with _ _ _ _ c.arguments_in-arguments.ensures c.in_ok-statement.ensures in
    does_then _ _ (does_room true (does_bound_call _ _ _ _ _ _ _ (rw (given, c.in_ok-statement.ensures, c.in_ok-name.ensures, c.batch-around.ensures) at c.call_over-bound.ensures.came))) c.run_exec.ensures.does

pub run_exec-requires-clause-given : goal.run_exec-requires-clause-given
run_exec-requires-clause-given g c = called_with _ _ _ _ c.arguments_in-arguments.ensures c.in_ok-statement.ensures
