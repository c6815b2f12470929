use Rattle.std.proofs.Common.{◌≡◌, refl, sym, ◌∙◌}
use Rattle.batch_meaning.specs.Rpc.{rpc_arguments}
use Rattle.batch_meaning.proofs.Composed.{does_out, does_then}
use Rattle.batch_exec.proofs.Requests.{called_with}
use Rattle.batch_exec.proofs.rpc.run_named.Goals as goal

pub returns-in_default-clause-does : goal.returns-in_default-clause-does
returns-in_default-clause-does g c = rw (sym c.object_in.ensures ∙ c.in_default.is) (c.fail_naming.ensures.does _)

pub returns-in_err-statement-clause-does : goal.returns-in_err-statement-clause-does
returns-in_err-statement-clause-does g c = does_out _ c.from_residual.ensures.0 refl

pub returns-clause-does : goal.returns-clause-does
returns-clause-does g c =
    let given : c.arguments_in-arguments.result.now ≡ rpc_arguments c.args.call.now = called_with _ _ _ _ c.arguments_in-arguments.ensures c.in_ok-statement.ensures in
    rw (sym c.object_in.ensures ∙ c.in-Some.is) (does_then _ _ (rw (given, c.in_ok-statement.ensures, c.batch-around.ensures) at c.find_call-found.ensures.does) c.run_exec.ensures.does)

pub run_exec-requires-clause-given : goal.run_exec-requires-clause-given
run_exec-requires-clause-given g c = called_with _ _ _ _ c.arguments_in-arguments.ensures c.in_ok-statement.ensures
