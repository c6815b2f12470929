use Rattle.std.proofs.Common.{◌≡◌, map}
use Rattle.typed_nodes.specs.Nodes as spec
use Rattle.typed_nodes.proofs.expr.arms_to.Given as goal

abbrev pub invariant-loop-arm : goal.invariant-loop-arm
invariant-loop-arm l = l.done.items ≡ map (spec.arm_to l.to) l.yielded
