use Rattle.std.proofs.Common.{◌≡◌, map, drop}
use Rattle.table_names.specs.Contents.{all_of, distinct_onto}
use Rattle.binder.specs.Names as spec
use Rattle.binder.proofs.names.note_initials.Given as goal

abbrev pub invariant-loop-of : goal.invariant-loop-of
invariant-loop-of l = distinct_onto l.names (all_of (map spec.in_initial (drop l.of-index l.declarations))) ≡ distinct_onto l.initial.names (all_of (map spec.in_initial l.declarations))
