use Rattle.std.proofs.Common.{◌≡◌, drop}
use Rattle.typed_nodes.specs.Nodes as spec
use Rattle.typed_nodes.specs.Facts.{no_facts}
use Rattle.typed_nodes.proofs.expr.arms_facts.Given as goal

-- what is known so far and of the rest is what is known of all
abbrev pub invariant-loop-arm : goal.invariant-loop-arm
invariant-loop-arm l = spec.arms_facts_onto l.done (drop l.arm-index l.arms) ≡ spec.arms_facts_onto no_facts l.arms
