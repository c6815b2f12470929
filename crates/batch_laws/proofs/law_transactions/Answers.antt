-- BEGIN TRANSACTION, COMMIT, ROLLBACK and SAVE TRANSACTION.
use Rattle.batch_laws.proofs.Transactions.{commit_leaves, rollback_leaves, save_leaves}
use Rattle.batch_laws.proofs.law_transactions.Goals as goal

pub returns-clause-commits : goal.returns-clause-commits
returns-clause-commits c = commit_leaves

pub returns-clause-rolls_back : goal.returns-clause-rolls_back
returns-clause-rolls_back c = rollback_leaves

pub returns-clause-saves : goal.returns-clause-saves
returns-clause-saves c = save_leaves
