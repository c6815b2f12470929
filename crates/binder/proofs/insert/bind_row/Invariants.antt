use Rattle.std.proofs.Common.{◌≡◌, [], drop}
use Rattle.binder.specs.Writes as spec
use Rattle.binder.proofs.insert.bind_row.Given as goal

abbrev pub invariant-loop-value : goal.invariant-loop-value
invariant-loop-value l =
    spec.row_onto l.binder.definitions.now l.binder.vars.now l.row (drop l.value-index l.values) l.at l.done
    ≡ spec.row_onto l.binder.definitions.now l.binder.vars.now [] l.values l.at l.initial.done
