use Rattle.std.proofs.Common.{◌≡◌}
use Rattle.binder.specs.Writes as spec
use Rattle.binder.proofs.places.all_places.Given as goal

abbrev pub invariant-loop-place : goal.invariant-loop-place
invariant-loop-place l = l.places ≡ spec.first_places l.place
