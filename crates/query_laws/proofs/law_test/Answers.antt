use Rattle.query_laws.proofs.FormedParts.{test_formed}
use Rattle.query_laws.proofs.law_test.Goals as goal

pub returns : goal.returns
returns c = test_formed
