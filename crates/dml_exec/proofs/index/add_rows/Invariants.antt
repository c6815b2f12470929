use Rattle.std.proofs.Common.{◌≡◌, ◌++◌, drop}
use Rattle.std.specs.List.{flat_map}
use Rattle.index_laws.specs.Deeds.{rows_added}
use Rattle.dml_exec.specs.Indexes.{written_of}
use Rattle.dml_exec.proofs.index.add_rows.Given as goal

-- what is there, and those of the rows that are left, are all
abbrev pub invariant-loop-row : goal.invariant-loop-row
invariant-loop-row l = l.changes.items ++ flat_map (written_of l.table l.places) (rows_added (drop l.row-index l.rows)) ≡ l.initial.changes.items ++ flat_map (written_of l.table l.places) (rows_added l.rows)
