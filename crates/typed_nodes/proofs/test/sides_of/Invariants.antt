use Rattle.std.proofs.Common.{◌≡◌, map}
use Rattle.typed_nodes.specs.Nodes as spec
use Rattle.typed_nodes.proofs.test.sides_of.Given as goal

abbrev pub invariant-loop-item : goal.invariant-loop-item
invariant-loop-item l = l.sides.items ≡ map (spec.side_of l.first) l.yielded
