use Rattle.std.proofs.Common.{◌≡◌, drop}
use Rattle.clause_binder.specs.Clauses as spec
use Rattle.clause_binder.proofs.items.column_items.Given as goal

abbrev pub invariant-loop-column : goal.invariant-loop-column
invariant-loop-column l =
    spec.column_items l.place (drop l.column-index l.columns) l.items l.at l.done ≡ spec.column_items l.first l.columns l.initial.items l.at l.initial.done
