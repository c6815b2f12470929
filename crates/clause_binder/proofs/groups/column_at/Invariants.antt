use Rattle.std.proofs.Common.{◌≡◌, drop}
use Rattle.std.specs.Prelude.{slice_get}
use Rattle.clause_binder.specs.Scope.{columns_in}
use Rattle.clause_binder.proofs.groups.column_at.Given as goal

abbrev pub invariant-loop-source : goal.invariant-loop-source
invariant-loop-source l = slice_get (columns_in (drop l.source-index l.sources)) l.place ≡ slice_get (columns_in l.sources) l.first
