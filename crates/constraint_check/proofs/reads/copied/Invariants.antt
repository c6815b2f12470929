use Rattle.std.proofs.Common.{◌≡◌, ◌++◌, drop}
use Rattle.constraint_check.proofs.reads.copied.Given as goal

-- the copies, and the values that are left, are all values
abbrev pub invariant-loop-value : goal.invariant-loop-value
invariant-loop-value l = l.copies.items ++ drop l.value-index l.values ≡ l.values
