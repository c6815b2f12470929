use Rattle.wait_graph.proofs.Ranks.{First}
use Rattle.wait_graph.proofs.rank.victim.Given as goal

abbrev pub invariant-loop-edge : goal.invariant-loop-edge
invariant-loop-edge l = First l.cycle l.ranks l.first l.edge-index
