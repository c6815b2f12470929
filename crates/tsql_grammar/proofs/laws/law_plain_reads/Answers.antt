use Rattle.tsql_grammar.proofs.PlainTexts.{kinds_read, plain_reads}
use Rattle.tsql_grammar.proofs.laws.law_plain_reads.Goals as goal

pub returns-clause-kinds_read : goal.returns-clause-kinds_read
returns-clause-kinds_read c = kinds_read

pub returns-clause-plain_reads : goal.returns-clause-plain_reads
returns-clause-plain_reads c = plain_reads
