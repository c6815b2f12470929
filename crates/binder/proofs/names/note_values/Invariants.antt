use Rattle.std.proofs.Common.{◌≡◌, map, drop}
use Rattle.table_names.specs.Contents.{all_of, distinct_onto}
use Rattle.binder.specs.Names as spec
use Rattle.binder.proofs.names.note_values.Given as goal

abbrev pub invariant-loop-row : goal.invariant-loop-row
invariant-loop-row l = distinct_onto l.names (all_of (map spec.in_row (drop l.row-index l.rows))) ≡ distinct_onto l.initial.names (all_of (map spec.in_row l.rows))
