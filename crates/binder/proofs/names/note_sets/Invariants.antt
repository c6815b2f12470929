use Rattle.std.proofs.Common.{◌≡◌, map, drop}
use Rattle.table_names.specs.Contents.{all_of, distinct_onto}
use Rattle.binder.specs.Names as spec
use Rattle.binder.proofs.names.note_sets.Given as goal

abbrev pub invariant-loop-set : goal.invariant-loop-set
invariant-loop-set l = distinct_onto l.names (all_of (map spec.in_set (drop l.set-index l.sets))) ≡ distinct_onto l.initial.names (all_of (map spec.in_set l.sets))
