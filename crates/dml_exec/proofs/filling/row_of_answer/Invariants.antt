use Rattle.std.proofs.Common.{◌≡◌, drop}
use Rattle.dml_exec.specs.Filling.{filled, null_row}
use Rattle.dml_exec.specs.Planning.{values_selected}
use Rattle.dml_exec.proofs.filling.row_of_answer.Given as goal

-- what is left of places and values, onto the row so far, gives the whole
abbrev pub invariant-loop-place : goal.invariant-loop-place
invariant-loop-place l = filled l.columns (values_selected (drop l.place-index l.places) l.rest) l.row.items ≡ filled l.columns (values_selected l.places l.answered) (null_row l.columns)
