use Rattle.std.proofs.Common.{refl}
use Rattle.dml_exec.proofs.Held.{asks_over}
use Rattle.dml_exec.proofs.writing.write_unless.Goals as goal

pub returns-in-Erase-clause-asks : goal.returns-in-Erase-clause-asks
returns-in-Erase-clause-asks g c = rw c.in-Erase.is (asks_over refl)
