use Rattle.std.proofs.Common.{◌≡◌, ◌++◌, drop}
use Rattle.std.specs.List.{flat_map}
use Rattle.constraint_check.specs.Reads as spec
use Rattle.constraint_check.proofs.reads.parent_reads.Given as goal

-- the reads so far, and those of what is left, are all
abbrev pub invariant-loop-child : goal.invariant-loop-child
invariant-loop-child l = l.reads.items ++ flat_map (spec.parent_reads_of l.table l.key) (drop l.child-index l.shapes) ≡ l.initial.reads.items ++ flat_map (spec.parent_reads_of l.table l.key) l.shapes
