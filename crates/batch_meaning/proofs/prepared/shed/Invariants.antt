use Rattle.std.proofs.Common.{◌≡◌, length}
use Rattle.batch_meaning.specs.Drivers.{shed}
use Rattle.batch_meaning.proofs.prepared.shed.Given as goal

-- what will be left is what was to be left
abbrev pub invariant-loop-kept : goal.invariant-loop-kept
invariant-loop-kept l = shed l.kept.items ≡ shed l.initial.kept.items

abbrev pub decreases-loop-kept : goal.decreases-loop-kept
decreases-loop-kept l = length l.kept.items
