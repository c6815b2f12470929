use Rattle.std.proofs.Common.{◌≡◌, length}
use Rattle.clause_binder.specs.Scope as spec
use Rattle.clause_binder.proofs.scope.has_twice.Given as goal

abbrev pub invariant-loop-rest : goal.invariant-loop-rest
invariant-loop-rest l = spec.has_twice l.rest ≡ spec.has_twice l.sources

abbrev pub decreases-loop-rest : goal.decreases-loop-rest
decreases-loop-rest l = length l.rest
