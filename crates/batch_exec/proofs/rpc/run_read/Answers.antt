use Rattle.std.proofs.Common.{sym}
use Rattle.batch_meaning.specs.Meaning.{mean_of}
use Rattle.batch_meaning.specs.Progress.{statement_limit}
use Rattle.batch_exec.proofs.Requests.{does_outside, does_within}
use Rattle.batch_exec.proofs.rpc.run_read.Goals as goal

pub returns-then-is_odd_procedure-clause-does : goal.returns-then-is_odd_procedure-clause-does
returns-then-is_odd_procedure-clause-does g c = does_outside (λ inner at. mean_of statement_limit inner at) c.args.call.now c.args.procedure (sym c.if-is_odd_procedure.ensures) (rw c.plain-failure.ensures at c.fail_call.ensures.does)

pub returns-clause-does : goal.returns-clause-does
returns-clause-does g c = does_within (λ inner at. mean_of statement_limit inner at) c.args.call.now c.args.procedure (sym c.if-is_odd_procedure.ensures) c.run_within.ensures.does
