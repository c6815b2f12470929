use Rattle.write_laws.proofs.Logged.{logged_commits}
use Rattle.write_laws.proofs.States.{next_states}
use Rattle.write_laws.proofs.law_logged.Goals as goal

pub returns-clause-commits : goal.returns-clause-commits
returns-clause-commits c = logged_commits

pub returns-clause-next : goal.returns-clause-next
returns-clause-next c = next_states
