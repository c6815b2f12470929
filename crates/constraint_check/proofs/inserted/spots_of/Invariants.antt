use Rattle.std.proofs.Common.{take}
use Rattle.constraint_check.specs.Inserted.{HasSpots}
use Rattle.constraint_check.proofs.inserted.spots_of.Given as goal

-- the keys of the changes so far
abbrev pub invariant-loop-change : goal.invariant-loop-change
invariant-loop-change l = HasSpots l.spots (take l.change-index l.changes)
