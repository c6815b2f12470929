use Rattle.std.proofs.Common.{◌≡◌, ◌++◌, drop, suc}
use Rattle.constraint_check.specs.Reads.{unique_reads, unique_reads_from}
use Rattle.constraint_check.proofs.reads.unique_reads.Given as goal

-- the reads so far, and those of what is left, are all
abbrev pub invariant-loop-key : goal.invariant-loop-key
invariant-loop-key l = l.reads.items ++ unique_reads_from l.shape l.row (suc l.part) (drop l.key-index l.shape.uniques) ≡ l.initial.reads.items ++ unique_reads l.shape l.row
