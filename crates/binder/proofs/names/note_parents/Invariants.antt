use Rattle.std.proofs.Common.{◌≡◌, map, drop}
use Rattle.table_names.specs.Contents.{all_of, distinct_onto}
use Rattle.binder.specs.Names as spec
use Rattle.binder.proofs.names.note_parents.Given as goal

abbrev pub invariant-loop-foreign : goal.invariant-loop-foreign
invariant-loop-foreign l = distinct_onto l.names (all_of (map (spec.in_foreign l.table) (drop l.foreign-index l.foreigns))) ≡ distinct_onto l.initial.names (all_of (map (spec.in_foreign l.table) l.foreigns))
