use Rattle.std.proofs.Common.{◌≤◌, length}
use Rattle.call_rules.proofs.Named.{ArePlacesFrom}
use Rattle.call_rules.proofs.matching.places_of.Given as goal

-- the places of the parameters from this one on
abbrev pub invariant-loop-place : goal.invariant-loop-place
invariant-loop-place l = record {
  within : l.place ≤ length l.parameters;
  places : ArePlacesFrom l.places l.place l.parameters;
}

abbrev pub decreases-loop-place : goal.decreases-loop-place
decreases-loop-place l = l.place
