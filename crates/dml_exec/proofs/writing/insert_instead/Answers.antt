use Rattle.dml_exec.proofs.Writes.{one_unwritten}
use Rattle.dml_exec.proofs.writing.insert_instead.Goals as goal

pub returns-in-Err-clause-asks : goal.returns-in-Err-clause-asks
returns-in-Err-clause-asks g c = one_unwritten c.args.shapes.now _
