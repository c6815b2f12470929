use Rattle.tsql_grammar.proofs.BasicTests.{written, read}
use Rattle.tsql_grammar.proofs.laws.law_basic.Goals as goal

pub returns-clause-reads_as_written : goal.returns-clause-reads_as_written
returns-clause-reads_as_written c = written

pub returns-clause-written_reads : goal.returns-clause-written_reads
returns-clause-written_reads c = read
