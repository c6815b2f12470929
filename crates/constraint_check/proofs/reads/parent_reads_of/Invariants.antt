use Rattle.std.proofs.Common.{◌≡◌, ◌++◌, drop, suc}
use Rattle.constraint_check.specs.Reads.{parent_reads_from, parent_reads_of}
use Rattle.constraint_check.proofs.reads.parent_reads_of.Given as goal

-- the reads so far, and those of what is left, are all
abbrev pub invariant-loop-foreign : goal.invariant-loop-foreign
invariant-loop-foreign l = l.reads.items ++ parent_reads_from l.table l.key l.child (suc l.part) (drop l.foreign-index l.child.foreigns) ≡ l.initial.reads.items ++ parent_reads_of l.table l.key l.child
