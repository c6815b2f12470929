use Rattle.std.proofs.Common.{◌≡◌, ◌++◌, drop}
use Rattle.query_eval.specs.KeyTests as spec
use Rattle.query_eval.proofs.key_tests.tests_of_key.Given as goal

abbrev pub invariant-loop-test : goal.invariant-loop-test
invariant-loop-test l =
    l.found.items ++ spec.key_tests l.key l.first (drop l.test-index l.tests) ≡ spec.key_tests l.key l.first l.tests
