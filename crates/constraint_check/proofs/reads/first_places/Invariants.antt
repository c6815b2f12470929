use Rattle.std.proofs.Common.{◌≡◌}
use Rattle.constraint_check.specs.Reads.{first_places}
use Rattle.constraint_check.proofs.reads.first_places.Given as goal

-- the places so far
abbrev pub invariant-loop-place : goal.invariant-loop-place
invariant-loop-place l = l.places.items ≡ first_places l.place
