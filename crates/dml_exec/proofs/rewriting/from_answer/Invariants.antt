use Rattle.std.proofs.Common.{◌≡◌, drop}
use Rattle.query_eval.specs.Phases.{each}
use Rattle.query_eval.proofs.Each.{each_onto}
use Rattle.dml_exec.specs.Filling.{filled, null_row}
use Rattle.dml_exec.specs.Planning.{values_selected}
use Rattle.dml_exec.proofs.rewriting.from_answer.Given as goal

-- the rows so far, and those that are left to be made, are all rows
abbrev pub invariant-loop-row : goal.invariant-loop-row
invariant-loop-row l = each_onto (λ row. filled l.columns (values_selected l.places row) (null_row l.columns)) l.rows.items (drop l.row-index l.selected)
    ≡ each (λ row. filled l.columns (values_selected l.places row) (null_row l.columns)) l.selected
