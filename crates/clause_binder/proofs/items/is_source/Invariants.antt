use Rattle.std.proofs.Common.{◌≡◌, option_map, drop}
use Rattle.clause_binder.specs.Clauses as spec
use Rattle.clause_binder.proofs.items.is_source.Given as goal

abbrev pub invariant-loop-source : goal.invariant-loop-source
invariant-loop-source l =
    let qualifier = option_map (λ name. name.now) l.qualifier in
    spec.is_source qualifier (drop l.source-index l.sources) ≡ spec.is_source qualifier l.sources
