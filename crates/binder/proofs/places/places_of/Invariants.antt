use Rattle.std.proofs.Common.{◌≡◌, [], drop}
use Rattle.binder.specs.Writes as spec
use Rattle.binder.proofs.places.places_of.Given as goal

abbrev pub invariant-loop-name : goal.invariant-loop-name
invariant-loop-name l = spec.places_onto l.columns l.places (drop l.name-index l.names) ≡ spec.places_onto l.columns [] l.names
