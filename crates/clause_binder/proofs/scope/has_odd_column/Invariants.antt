use Rattle.std.proofs.Common.{◌≡◌}
use Rattle.std.specs.Prelude.{drop}
use Rattle.std.specs.List.{list_any}
use Rattle.clause_binder.specs.Scope as spec
use Rattle.clause_binder.proofs.scope.has_odd_column.Given as goal

-- none of those before
abbrev pub invariant-loop-column : goal.invariant-loop-column
invariant-loop-column l = list_any spec.is_odd_column (drop l.column-index l.columns) ≡ list_any spec.is_odd_column l.columns
