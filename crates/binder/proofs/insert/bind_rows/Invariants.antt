use Rattle.std.proofs.Common.{◌≡◌, [], drop}
use Rattle.binder.specs.Writes as spec
use Rattle.binder.proofs.insert.bind_rows.Given as goal

abbrev pub invariant-loop-row : goal.invariant-loop-row
invariant-loop-row l =
    spec.rows_onto l.binder.definitions.now l.binder.vars.now l.rows (drop l.row-index l.values) l.at l.done
    ≡ spec.rows_onto l.binder.definitions.now l.binder.vars.now [] l.values l.at l.initial.done
