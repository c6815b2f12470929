use Rattle.write_laws.proofs.IndexKeys.{asked_stand, found_all, keys_told}
use Rattle.write_laws.proofs.law_index_keys.Goals as goal

pub returns-clause-told : goal.returns-clause-told
returns-clause-told c = keys_told

pub returns-clause-all : goal.returns-clause-all
returns-clause-all c = found_all

pub returns-clause-stand : goal.returns-clause-stand
returns-clause-stand c = asked_stand
