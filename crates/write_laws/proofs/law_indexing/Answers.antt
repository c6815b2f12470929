use Rattle.write_laws.proofs.Emptied.{gone_emptied}
use Rattle.write_laws.proofs.Indexing.{index_free, index_stands, indexed_written}
use Rattle.write_laws.proofs.law_indexing.Goals as goal

pub returns-clause-written : goal.returns-clause-written
returns-clause-written c = indexed_written

pub returns-clause-free : goal.returns-clause-free
returns-clause-free c = index_free

pub returns-clause-stands : goal.returns-clause-stands
returns-clause-stands c = index_stands

pub returns-clause-gone : goal.returns-clause-gone
returns-clause-gone c = gone_emptied
