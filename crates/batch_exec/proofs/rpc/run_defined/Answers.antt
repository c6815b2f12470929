use Rattle.std.proofs.Common.{sym, ◌∙◌}
use Rattle.batch_meaning.specs.Meaning.{mean_of}
use Rattle.batch_meaning.specs.Progress.{statement_limit}
use Rattle.batch_exec.proofs.Requests.{does_unmatched}
use Rattle.batch_exec.proofs.rpc.run_defined.Goals as goal

pub returns-in-Some-clause-does : goal.returns-in-Some-clause-does
returns-in-Some-clause-does g c = rw (sym c.procedure_in.ensures ∙ c.in-Some.is) c.run_read.ensures.does

pub returns-in-None-clause-does : goal.returns-in-None-clause-does
returns-in-None-clause-does g c = rw (sym c.procedure_in.ensures ∙ c.in-None.is) (does_unmatched (λ inner at. mean_of statement_limit inner at) c.args.call.now (rw c.plain.ensures at c.fail_call.ensures.does))
