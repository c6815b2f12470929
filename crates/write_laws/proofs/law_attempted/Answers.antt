use Rattle.write_laws.proofs.Applied.{applied_follows}
use Rattle.write_laws.proofs.Attempted.{write_follows}
use Rattle.write_laws.proofs.law_attempted.Goals as goal

pub returns-clause-follows : goal.returns-clause-follows
returns-clause-follows c = write_follows

pub returns-clause-applied : goal.returns-clause-applied
returns-clause-applied c = applied_follows
