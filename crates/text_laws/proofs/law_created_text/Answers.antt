use Rattle.text_laws.proofs.Batches.{created_reads, created_text}
use Rattle.text_laws.proofs.law_created_text.Goals as goal

pub returns-clause-reads : goal.returns-clause-reads
returns-clause-reads c = created_reads

pub returns-clause-defines : goal.returns-clause-defines
returns-clause-defines c = created_text
