use Rattle.std.proofs.Common.{◌≡◌, drop}
use Rattle.std.specs.List.{list_any}
use Rattle.value_types.specs.Units.{same_units}
use Rattle.clause_binder.specs.Scope.{TableSource}
use Rattle.clause_binder.proofs.scope.is_named.Given as goal

abbrev pub invariant-loop-source : goal.invariant-loop-source
invariant-loop-source l =
    list_any (λ (other : TableSource). same_units l.name other.name) (drop l.source-index l.sources)
    ≡ list_any (λ (other : TableSource). same_units l.name other.name) l.sources
