use Rattle.std.proofs.Common.{◌≡◌, [], replicate}
use Rattle.wait_graph.specs.Lists.{shown}
use Rattle.wait_graph.proofs.holders.empty_lists.Given as goal

abbrev pub invariant-loop : goal.invariant-loop
invariant-loop l = shown l.made.items ≡ replicate l.counter []
