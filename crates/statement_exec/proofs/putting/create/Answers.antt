use Rattle.std.proofs.Common.{Ok, ap}
use Rattle.batch_meaning.specs.Writes.{creates}
use Rattle.batch_meaning.proofs.Composed.{does_bind, does_fail}
use Rattle.statement_exec.proofs.Parts.{does_made}
use Rattle.statement_exec.proofs.putting.create.Goals as goal

pub returns-in_err-put_definition-clause-does : goal.returns-in_err-put_definition-clause-does
unfolding creates
returns-in_err-put_definition-clause-does g c = does_fail _ _ _ c.from_residual.ensures.0 c.from_residual.ensures.1 c.in_err-put_definition.ensures.does

pub returns-clause-does : goal.returns-clause-does
unfolding creates
returns-clause-does g c = does_bind _ _ c.in_ok-put_definition.ensures.does (does_made (ap Ok c.none.ensures))
