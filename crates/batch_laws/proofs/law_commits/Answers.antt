-- Each commit ends the transaction of a statement.
use Rattle.batch_laws.proofs.Paths.{batch_commits}
use Rattle.batch_laws.proofs.law_commits.Goals as goal

pub returns : goal.returns
returns c = batch_commits
