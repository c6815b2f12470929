use Rattle.write_laws.proofs.Cleared.{indexed_cleared}
use Rattle.write_laws.proofs.DropParts.{indexed_drop_planned}
use Rattle.write_laws.proofs.Indexed.{indexed_created, indexed_dropped, indexed_empty, indexed_erased, indexed_put}
use Rattle.write_laws.proofs.law_indexed.Goals as goal

pub returns-clause-empty : goal.returns-clause-empty
returns-clause-empty c = indexed_empty

pub returns-clause-created : goal.returns-clause-created
returns-clause-created c = indexed_created

pub returns-clause-put : goal.returns-clause-put
returns-clause-put c = indexed_put

pub returns-clause-erased : goal.returns-clause-erased
returns-clause-erased c = indexed_erased

pub returns-clause-dropped : goal.returns-clause-dropped
returns-clause-dropped c = indexed_dropped

pub returns-clause-cleared : goal.returns-clause-cleared
returns-clause-cleared c = indexed_cleared

pub returns-clause-planned : goal.returns-clause-planned
returns-clause-planned c = indexed_drop_planned
