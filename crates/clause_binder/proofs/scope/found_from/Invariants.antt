use Rattle.std.proofs.Common.{◌≡◌, option_map, drop}
use Rattle.clause_binder.specs.declared.scope.Matches.TheVariants.{Nothing}
use Rattle.clause_binder.specs.Scope as spec
use Rattle.clause_binder.proofs.scope.found_from.Given as goal

abbrev pub invariant-loop-source : goal.invariant-loop-source
invariant-loop-source l =
    let qualifier = option_map (λ name. name.now) l.qualifier in
    spec.found_from qualifier l.name l.place (drop l.source-index l.sources) l.found ≡ spec.found_from qualifier l.name 0 l.sources Nothing
