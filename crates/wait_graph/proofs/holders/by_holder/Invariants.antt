use Rattle.std.proofs.Common.{take}
use Rattle.wait_graph.specs.Lists.{AreListed, shown}
use Rattle.wait_graph.proofs.holders.by_holder.Given as goal

abbrev pub invariant-loop-edge : goal.invariant-loop-edge
invariant-loop-edge l = AreListed (take l.edge-index l.edges) (shown l.made.items)
