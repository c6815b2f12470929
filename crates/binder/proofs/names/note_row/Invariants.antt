use Rattle.std.proofs.Common.{◌≡◌, map, drop}
use Rattle.table_names.specs.Contents.{all_of, distinct_onto, in_expr}
use Rattle.binder.proofs.names.note_row.Given as goal

abbrev pub invariant-loop-expr : goal.invariant-loop-expr
invariant-loop-expr l = distinct_onto l.names (all_of (map in_expr (drop l.expr-index l.row))) ≡ distinct_onto l.initial.names (all_of (map in_expr l.row))
