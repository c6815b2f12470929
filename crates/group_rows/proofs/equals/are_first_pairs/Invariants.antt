use Rattle.std.proofs.Common.{take}
use Rattle.std.specs.BTreeSet.{contains}
use Rattle.std.specs.Ordering.{on}
use Rattle.value_types.specs.Order.{key_cmp}
use Rattle.group_rows.proofs.Gathering.{Kept, pair_of, row_of, same_second, same_second_laws}
use Rattle.group_rows.proofs.equals.are_first_pairs.Given as goal

abbrev pub invariant-loop-pair : goal.invariant-loop-pair
invariant-loop-pair l = Kept same_second same_second_laws pair_of (take l.pair-index l.pairs) l.kept.items (λ q. contains (on row_of key_cmp) l.seen q)
