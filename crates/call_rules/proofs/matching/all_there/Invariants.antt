use Rattle.std.proofs.Common.{◌≡◌, drop}
use Rattle.call_rules.specs.Arguments.{all_there}
use Rattle.call_rules.specs.Found.{lent, lent_slots}
use Rattle.call_rules.proofs.Outcomes.{behind}
use Rattle.call_rules.proofs.matching.all_there.Given as goal

-- those so far, in front of those that are left
abbrev pub invariant-loop-slot : goal.invariant-loop-slot
invariant-loop-slot l = behind (lent l.found.items) (all_there (lent_slots (drop l.slot-index l.slots))) ≡ all_there (lent_slots l.slots)
