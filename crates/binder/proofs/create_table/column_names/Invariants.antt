use Rattle.std.proofs.Common.{◌≡◌, ◌++◌, map, drop}
use Rattle.binder.proofs.create_table.column_names.Given as goal

abbrev pub invariant-loop-column : goal.invariant-loop-column
invariant-loop-column l = l.names ++ map (λ column. column.name) (drop l.column-index l.columns) ≡ map (λ column. column.name) l.columns
