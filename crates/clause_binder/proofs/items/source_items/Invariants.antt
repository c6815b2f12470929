use Rattle.std.proofs.Common.{◌≡◌, option_map, drop}
use Rattle.clause_binder.specs.Clauses as spec
use Rattle.clause_binder.proofs.items.source_items.Given as goal

abbrev pub invariant-loop-source : goal.invariant-loop-source
invariant-loop-source l =
    let qualifier = option_map (λ name. name.now) l.qualifier in
    spec.source_items qualifier l.place (drop l.source-index l.at.sources) l.items l.at l.done
    ≡ spec.source_items qualifier 0 l.at.sources l.initial.items l.at l.initial.done
