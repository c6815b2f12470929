use Rattle.std.proofs.Common.{arith}
use Rattle.std.proofs.lemmas.Grind.{common_steps}
use Rattle.query_eval.proofs.Reading.{key_tests_next}
use Rattle.query_eval.proofs.key_tests.tests_of_key.Goals as goal

pub loop-test-preserved : goal.loop-test-preserved
loop-test-preserved c =
    let next = key_tests_next c.args.key.now c.args.first c.args.tests.now c.loop-test.test-index c.test-item.result c.loop-test-test.true c.test-item.is in
    grind (arith, common_steps, next)
