use Rattle.std.proofs.Common.{subst}
use Rattle.query_eval.specs.KeyTests.{column_tests}
use Rattle.query_eval.proofs.KeyTests.{Meet, own_met, true_meets}
use Rattle.query_eval.proofs.laws.law_key_tests.Goals as goal

pub returns : goal.returns
returns c = λ types setting fits test formed is before row behind whole key within.
    own_met before row behind key within (column_tests setting.vars test)
    (subst (λ r. Meet r (column_tests setting.vars test)) whole (true_meets types setting fits test formed is))
