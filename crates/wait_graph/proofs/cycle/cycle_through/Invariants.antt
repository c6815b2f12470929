use Rattle.std.proofs.Common.{◌-◌, length}
use Rattle.wait_graph.proofs.Searches.{Searches}
use Rattle.wait_graph.proofs.cycle.cycle_through.Given as goal

abbrev pub invariant-loop-next : goal.invariant-loop-next
invariant-loop-next l = Searches l.edges l.session l.next l.trail

abbrev pub decreases-loop-next : goal.decreases-loop-next
decreases-loop-next l = length l.edges - l.next
