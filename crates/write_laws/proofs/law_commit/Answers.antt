use Rattle.write_laws.proofs.Commits.{commit_leaves}
use Rattle.write_laws.proofs.Firsts.{firsts_fresh}
use Rattle.write_laws.proofs.law_commit.Goals as goal

pub returns-clause-fresh : goal.returns-clause-fresh
returns-clause-fresh c = firsts_fresh

pub returns-clause-leaves : goal.returns-clause-leaves
returns-clause-leaves c = commit_leaves
