use Rattle.std.proofs.Common.{◌≡◌, ◌++◌, suc, drop}
use Rattle.std.specs.List.{flat_map}
use Rattle.table_rows.specs.Rows.{index_columns}
use Rattle.dml_exec.specs.Planning.{index_deeds, is_same_row, part_deeds, parts_from, row_changes_of}
use Rattle.dml_exec.proofs.index.index_deeds.Given as goal

-- those of the parts so far, and of those that are left
abbrev pub invariant-loop-place : goal.invariant-loop-place
invariant-loop-place l = l.changes.items ++ flat_map (part_deeds l.shape is_same_row (row_changes_of l.rows)) (parts_from l.shape (suc l.place) (drop l.place (index_columns l.shape))) ≡ index_deeds l.shape is_same_row (row_changes_of l.rows)
