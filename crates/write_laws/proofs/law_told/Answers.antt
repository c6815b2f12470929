use Rattle.write_laws.proofs.Told.{rows_told, targets_read}
use Rattle.write_laws.proofs.law_told.Goals as goal

pub returns-clause-rows : goal.returns-clause-rows
returns-clause-rows c = rows_told

pub returns-clause-targets : goal.returns-clause-targets
returns-clause-targets c = targets_read
