use Rattle.std.proofs.Common.{take}
use Rattle.call_rules.specs.Found.{AreTaken}
use Rattle.call_rules.proofs.images.taken_keys.Given as goal

-- the keys of the changes so far
abbrev pub invariant-loop-change : goal.invariant-loop-change
invariant-loop-change l = AreTaken l.keys (take l.change-index l.changes)
