use Rattle.std.proofs.Common.{true, false, Ok, Err, ap}
use Rattle.batch_meaning.specs.Writes.{drops_definition}
use Rattle.batch_meaning.proofs.Composed.{does_bind, does_fail, does_room}
use Rattle.statement_exec.proofs.Parts.{does_failed, does_made}
use Rattle.statement_exec.proofs.dropping.drop_definition.Goals as goal

pub returns-in_default-clause-does : goal.returns-in_default-clause-does
unfolding drops_definition
returns-in_default-clause-does g c = λ around. does_failed _ _ (does_room false (does_made (ap Err c.no_memory.ensures)))

pub returns-in_err-apply-clause-does : goal.returns-in_err-apply-clause-does
unfolding drops_definition
returns-in_err-apply-clause-does g c = λ around. does_fail _ _ _ c.from_residual.ensures.0 c.from_residual.ensures.1 (does_room true (rw (c.as_slice.ensures, c.in-Ok.ensures) at c.in_err-apply.ensures.does))

pub returns-clause-does : goal.returns-clause-does
unfolding drops_definition
returns-clause-does g c = λ around. does_bind _ _ (does_room true (rw (c.as_slice.ensures, c.in-Ok.ensures) at c.in_ok-apply.ensures.does)) (does_made (ap Ok c.none.ensures))
