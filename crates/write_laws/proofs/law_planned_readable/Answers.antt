use Rattle.write_laws.proofs.PlannedWrites.{planned_readable}
use Rattle.write_laws.proofs.law_planned_readable.Goals as goal

pub returns : goal.returns
returns c = planned_readable
