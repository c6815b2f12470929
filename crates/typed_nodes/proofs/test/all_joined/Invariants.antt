use Rattle.typed_nodes.specs.Tests.{all_joined}
use Rattle.typed_nodes.proofs.Joined.{Leads}
use Rattle.typed_nodes.proofs.test.all_joined.Given as goal

abbrev pub invariant-loop-round : goal.invariant-loop-round
invariant-loop-round l = Leads l.by l._round l._round-end l.first l.rest.items (all_joined l.by l.fn.first l.fn.rest.items)
