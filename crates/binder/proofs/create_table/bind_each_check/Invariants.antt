use Rattle.std.proofs.Common.{◌≡◌, [], drop}
use Rattle.binder.specs.Tables as spec
use Rattle.binder.proofs.create_table.bind_each_check.Given as goal

abbrev pub invariant-loop-check : goal.invariant-loop-check
invariant-loop-check l =
    spec.checks_onto l.binder.definitions.now l.binder.vars.now l.bound.items (drop l.check-index l.checks) l.at l.done
    ≡ spec.checks_onto l.binder.definitions.now l.binder.vars.now [] l.checks l.at l.initial.done
