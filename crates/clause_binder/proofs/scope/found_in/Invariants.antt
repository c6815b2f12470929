use Rattle.std.proofs.Common.{◌≡◌, drop}
use Rattle.clause_binder.specs.Scope as spec
use Rattle.clause_binder.proofs.scope.found_in.Given as goal

abbrev pub invariant-loop-column : goal.invariant-loop-column
invariant-loop-column l =
    spec.found_in l.name l.place (drop l.column-index l.columns) l.found ≡ spec.found_in l.name l.first l.columns l.initial.found
