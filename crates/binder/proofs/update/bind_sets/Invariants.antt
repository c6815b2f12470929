use Rattle.std.proofs.Common.{◌≡◌, [], drop}
use Rattle.binder.specs.Writes as spec
use Rattle.binder.proofs.update.bind_sets.Given as goal

abbrev pub invariant-loop-set : goal.invariant-loop-set
invariant-loop-set l =
    spec.sets_onto l.binder.definitions.now l.binder.vars.now l.columns l.bound (drop l.set-index l.sets) l.at l.done
    ≡ spec.sets_onto l.binder.definitions.now l.binder.vars.now l.columns [] l.sets l.at l.initial.done
