use Rattle.std.proofs.Common.{◌≡◌, drop}
use Rattle.scalar_eval.specs.Scopes.{setting_of}
use Rattle.dml_exec.specs.Filling.{filled}
use Rattle.dml_exec.specs.Planning.{values_set}
use Rattle.dml_exec.proofs.filling.row_set.Given as goal

-- what is left, onto the row so far, gives the whole
abbrev pub invariant-loop-set : goal.invariant-loop-set
invariant-loop-set l = filled l.columns (values_set (setting_of l.scope) (drop l.set-index l.sets)) l.row.items ≡ filled l.columns (values_set (setting_of l.scope) l.sets) l.scope.row.now
