use Rattle.write_laws.proofs.Currents.{rows_current}
use Rattle.write_laws.proofs.Ranges.{range_read}
use Rattle.write_laws.proofs.law_range_read.Goals as goal

pub returns-clause-held : goal.returns-clause-held
returns-clause-held c = range_read

pub returns-clause-current : goal.returns-clause-current
returns-clause-current c = rows_current
