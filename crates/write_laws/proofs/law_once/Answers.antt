use Rattle.write_laws.proofs.PlannedKeys.{planned_keys}
use Rattle.write_laws.proofs.Transactions.{once_leaves, once_passes}
use Rattle.write_laws.proofs.law_once.Goals as goal

pub returns-clause-leaves : goal.returns-clause-leaves
returns-clause-leaves c = once_leaves

pub returns-clause-passes : goal.returns-clause-passes
returns-clause-passes c = once_passes

pub returns-clause-keys : goal.returns-clause-keys
returns-clause-keys c = planned_keys
