use Rattle.std.proofs.Common.{take}
use Rattle.group_rows.proofs.Numbers.{Summed}
use Rattle.group_rows.proofs.aggregate.sum_of.Given as goal

abbrev pub invariant-loop-value : goal.invariant-loop-value
invariant-loop-value l = Summed (take l.value-index l.values) l.value-index l.total l.count
