use Rattle.batch_meaning.proofs.Composed.{does_then}
use Rattle.statement_exec.proofs.Parts.{does_naming}
use Rattle.batch_exec.proofs.rpc.fail_naming.Goals as goal

pub returns-clause-does : goal.returns-clause-does
returns-clause-does g c = λ call. does_then _ _ (does_naming _ _ _ c.naming-failure.ensures) c.fail_call.ensures.does
