use Rattle.std.proofs.Common.{◌≡◌}
use Rattle.std.specs.Prelude.{drop}
use Rattle.std.specs.List.{list_any}
use Rattle.clause_binder.specs.Scope as spec
use Rattle.clause_binder.proofs.scope.has_odd.Given as goal

-- none of those before
abbrev pub invariant-loop-source : goal.invariant-loop-source
invariant-loop-source l = list_any spec.is_odd_source (drop l.source-index l.sources) ≡ list_any spec.is_odd_source l.sources
