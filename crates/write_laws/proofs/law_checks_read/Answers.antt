use Rattle.write_laws.proofs.Checks.{checks_read}
use Rattle.write_laws.proofs.Tables.{reads_ready}
use Rattle.write_laws.proofs.law_checks_read.Goals as goal

pub returns-clause-read : goal.returns-clause-read
returns-clause-read c = checks_read

pub returns-clause-ready : goal.returns-clause-ready
returns-clause-ready c = reads_ready
