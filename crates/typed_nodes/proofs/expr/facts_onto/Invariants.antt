use Rattle.std.proofs.Common.{◌≡◌, drop}
use Rattle.typed_nodes.specs.Nodes as spec
use Rattle.typed_nodes.proofs.expr.facts_onto.Given as goal

-- what is known so far and of the rest is what is known of all
abbrev pub invariant-loop-item : goal.invariant-loop-item
invariant-loop-item l = spec.facts_onto l.done (drop l.item-index l.items) ≡ spec.facts_onto l.fn.before l.items
