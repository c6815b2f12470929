-- What a statement tells.
use Rattle.std.specs.Prelude.{Bool, ℤ}
use Rattle.batch_meaning.specs.declared.raised.Raised.{Raised}
use Rattle.batch_meaning.specs.Selecting.{Effect}
use Rattle.batch_laws.proofs.Telling.{work_tells}
use Rattle.batch_laws.proofs.law_told.Goals as goal

pub returns-clause-works : goal.returns-clause-works
returns-clause-works c = work_tells Effect

pub returns-clause-tests : goal.returns-clause-tests
returns-clause-tests c = work_tells Bool

pub returns-clause-messages : goal.returns-clause-messages
returns-clause-messages c = work_tells Raised

pub returns-clause-statuses : goal.returns-clause-statuses
returns-clause-statuses c = work_tells ℤ
