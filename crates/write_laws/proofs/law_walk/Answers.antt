use Rattle.write_laws.proofs.Walks.{key_is_told, walk_read}
use Rattle.write_laws.proofs.law_walk.Goals as goal

pub returns-clause-range : goal.returns-clause-range
returns-clause-range c = walk_read

pub returns-clause-key : goal.returns-clause-key
returns-clause-key c = key_is_told
