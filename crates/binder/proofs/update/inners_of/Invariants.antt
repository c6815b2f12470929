use Rattle.std.proofs.Common.{◌≡◌, drop}
use Rattle.binder.specs.Writes as spec
use Rattle.binder.proofs.update.inners_of.Given as goal

abbrev pub invariant-loop-set : goal.invariant-loop-set
invariant-loop-set l =
    spec.inners_onto l.binder.definitions.now l.binder.vars.now l.count (drop l.set-index l.sets)
    ≡ spec.inners_onto l.binder.definitions.now l.binder.vars.now 0 l.sets
