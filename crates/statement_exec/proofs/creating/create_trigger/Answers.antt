use Rattle.std.proofs.Common.{true, ◌∙◌}
use Rattle.batch_meaning.specs.Writes.{creates_definition}
use Rattle.batch_meaning.proofs.Composed.{does_room}
use Rattle.statement_exec.proofs.Parts.{does_own, does_own_not, left_open}
use Rattle.statement_exec.proofs.creating.create_trigger.Goals as goal

pub returns-in_err-home-clause-does : goal.returns-in_err-home-clause-does
unfolding creates_definition
returns-in_err-home-clause-does g c = does_room true (does_own_not _ _ _ c.from_residual.ensures.0 c.from_residual.ensures.1 (rw c.is_objects.ensures at c.in_err-home.ensures.does))

pub returns-clause-does : goal.returns-clause-does
unfolding creates_definition
returns-clause-does g c = does_room true (does_own _ _ (rw c.is_objects.ensures at c.in_ok-home.ensures.does) c.create_trigger_in-came.ensures.does (rw c.is_ok.ensures.value at c.leave.ensures.does))

pub create_trigger_in-came-requires : goal.create_trigger_in-came-requires
create_trigger_in-came-requires g c = record { ready = c.in_ok-home.ensures.ready; begun = rw c.is_objects.ensures at c.in_ok-home.ensures.begun }

pub leave-requires : goal.leave-requires
leave-requires g c = record { ready = c.create_trigger_in-came.ensures.ready; begun = λ some. c.create_trigger_in-came.ensures.kept ∙ left_open _ _ _ c.in_ok-home.ensures.begun c.in_ok-home.ensures.nowhere some }
