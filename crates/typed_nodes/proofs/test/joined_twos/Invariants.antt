use Rattle.typed_nodes.proofs.Joined.{IsJoined}
use Rattle.typed_nodes.proofs.test.joined_twos.Given as goal

abbrev pub invariant-loop-test : goal.invariant-loop-test
invariant-loop-test l = IsJoined l.by l.yielded l.done.items l.waiting
