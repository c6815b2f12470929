use Rattle.wait_graph.proofs.Follows.{Follows}
use Rattle.wait_graph.proofs.trail.Trail.follow.Given as goal

abbrev pub invariant-loop-edge : goal.invariant-loop-edge
invariant-loop-edge l = Follows l.edge-items l.holder l.edge-index l.initial.self l.self
