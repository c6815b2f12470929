use Rattle.std.proofs.Common.{◌≡◌, ℕ, List, drop}
use Rattle.clause_binder.specs.declared.scope.Matches.TheVariants.{Nothing}
use Rattle.clause_binder.specs.Scope as spec
use Rattle.clause_binder.specs.ByName as by
use Rattle.clause_binder.proofs.columns.ColumnsByName.new.Given as goal

abbrev pub invariant-loop-column : goal.invariant-loop-column
invariant-loop-column l = (name : List ℕ) → spec.found_in name l.place (drop l.column-index l.columns) (by.matches_at l.matches name) ≡ spec.found_in name 0 l.columns Nothing
