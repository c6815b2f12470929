use Rattle.std.proofs.Common.{take}
use Rattle.std.specs.Option.{option_map}
use Rattle.group_rows.proofs.Least.{FirstOf}
use Rattle.group_rows.proofs.aggregate.first_of.Given as goal

abbrev pub invariant-loop-value : goal.invariant-loop-value
invariant-loop-value l = FirstOf l.down (take l.value-index l.values) (option_map (λ found. found.now) l.first)
