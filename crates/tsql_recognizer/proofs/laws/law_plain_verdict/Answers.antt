use Rattle.tsql_recognizer.proofs.PlainVerdicts.{plain_verdict}
use Rattle.tsql_recognizer.proofs.laws.law_plain_verdict.Goals as goal

pub returns : goal.returns
returns c = plain_verdict
