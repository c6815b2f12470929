use Rattle.std.proofs.Common.{◌≡◌, drop}
use Rattle.clause_binder.specs.Scope as spec
use Rattle.clause_binder.proofs.scope.width_of.Given as goal

abbrev pub invariant-loop-source : goal.invariant-loop-source
invariant-loop-source l = spec.width_onto l.width (drop l.source-index l.sources) ≡ spec.width_onto 0 l.sources
