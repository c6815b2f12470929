use Rattle.std.proofs.Common.{◌≡◌, ◌++◌, drop}
use Rattle.std.specs.List.{flat_map}
use Rattle.constraint_check.specs.Reads as spec
use Rattle.constraint_check.proofs.reads.add_uniques.Given as goal

-- the reads so far, and those of what is left, are all
abbrev pub invariant-loop-change : goal.invariant-loop-change
invariant-loop-change l = l.reads.items ++ flat_map (spec.of_row spec.unique_reads l.shapes) (drop l.change-index l.changes) ≡ l.initial.reads.items ++ flat_map (spec.of_row spec.unique_reads l.shapes) l.changes
