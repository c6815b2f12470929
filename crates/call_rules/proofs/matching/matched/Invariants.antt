use Rattle.std.proofs.Common.{drop}
use Rattle.call_rules.specs.Found.{lent_slots}
use Rattle.call_rules.proofs.Slots.{AreSlots}
use Rattle.call_rules.proofs.matching.matched.Given as goal

abbrev pub invariant-loop-at : goal.invariant-loop-at
invariant-loop-at l = AreSlots l.parameters l.arguments (lent_slots l.slots.items) l.at (drop l.at l.arguments)
