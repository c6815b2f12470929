use Rattle.std.proofs.Common.{◌≡◌, map}
use Rattle.typed_nodes.specs.Nodes as spec
use Rattle.typed_nodes.proofs.expr.first_of_items.Given as goal

abbrev pub invariant-loop-item : goal.invariant-loop-item
invariant-loop-item l = l.done.items ≡ map (spec.converted l.to) l.yielded
