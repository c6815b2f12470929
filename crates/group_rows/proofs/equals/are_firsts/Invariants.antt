use Rattle.std.proofs.Common.{take}
use Rattle.std.specs.BTreeSet.{contains}
use Rattle.std.specs.Ordering.{on}
use Rattle.value_types.specs.Order.{key_cmp}
use Rattle.group_rows.specs.Equals.{same_row}
use Rattle.group_rows.proofs.Gathering.{Kept, row_of, same_row_laws}
use Rattle.group_rows.proofs.equals.are_firsts.Given as goal

abbrev pub invariant-loop-row : goal.invariant-loop-row
invariant-loop-row l = Kept same_row same_row_laws row_of (take l.row-index l.rows) l.kept.items (λ q. contains (on row_of key_cmp) l.seen q)
