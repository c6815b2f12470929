use Rattle.std.proofs.Common.{◌≡◌, [], drop}
use Rattle.std.specs.Prelude.{filter_map}
use Rattle.binder.specs.Values as spec
use Rattle.binder.proofs.values.initials_onto.Given as goal

abbrev pub invariant-loop-of : goal.invariant-loop-of
invariant-loop-of l =
    spec.values_onto l.binder.definitions.now l.binder.vars.now l.items (filter_map (λ of. of.initial) (drop l.of-index l.declarations)) l.at l.done
    ≡ spec.values_onto l.binder.definitions.now l.binder.vars.now [] (filter_map (λ of. of.initial) l.declarations) l.at l.initial.done
