use Rattle.std.proofs.Common.{◌≡◌, length}
use Rattle.binder.specs.Writes as spec
use Rattle.binder.proofs.places.is_repeated.Given as goal

abbrev pub invariant-loop-names : goal.invariant-loop-names
invariant-loop-names l = spec.is_repeated l.names ≡ spec.is_repeated l.initial.names

abbrev pub decreases-loop-names : goal.decreases-loop-names
decreases-loop-names l = length l.names
