use Rattle.std.proofs.Common.{◌≡◌, drop}
use Rattle.scalar_eval.specs.Scopes.{setting_of}
use Rattle.dml_exec.specs.Filling.{filled, null_row}
use Rattle.dml_exec.specs.Planning.{values_given}
use Rattle.dml_exec.proofs.filling.row_of_values.Given as goal

-- what is left of places and expressions, onto the row so far, gives the whole
abbrev pub invariant-loop-place : goal.invariant-loop-place
invariant-loop-place l = filled l.columns (values_given (setting_of l.scope) (drop l.place-index l.places) l.rest) l.row.items ≡ filled l.columns (values_given (setting_of l.scope) l.places l.exprs) (null_row l.columns)
