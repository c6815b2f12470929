use Rattle.std.proofs.Common.{◌∙◌}
use Rattle.batch_meaning.specs.Meaning.{tells}
use Rattle.statement_exec.proofs.Beginning.{composes_left}
use Rattle.batch_exec.proofs.Runs.{does_concluded}
use Rattle.batch_exec.proofs.simple.tell.Goals as goal

pub returns-in-Ok-clause-does : goal.returns-in-Ok-clause-does
unfolding tells
returns-in-Ok-clause-does g c = does_concluded _ _ _ _ c.in-Ok.ensures.does c.raise_or_tell.ensures.does

pub returns-in-Ok-clause-left : goal.returns-in-Ok-clause-left
returns-in-Ok-clause-left g c = c.raise_or_tell.ensures.left ∙ composes_left _ _ c.in-Ok.ensures.does

pub returns-in-Err-clause-does : goal.returns-in-Err-clause-does
unfolding tells
returns-in-Err-clause-does g c = does_concluded _ _ _ _ c.in-Err.ensures.does c.fail.ensures.does

pub returns-in-Err-clause-left : goal.returns-in-Err-clause-left
returns-in-Err-clause-left g c = c.fail.ensures.left ∙ composes_left _ _ c.in-Err.ensures.does
