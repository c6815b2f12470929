use Rattle.write_laws.proofs.Writes.{writes_leave, writes_pass}
use Rattle.write_laws.proofs.law_writes.Goals as goal

pub returns-clause-pass : goal.returns-clause-pass
returns-clause-pass c = writes_pass

pub returns-clause-leave : goal.returns-clause-leave
returns-clause-leave c = writes_leave
