use Rattle.std.proofs.Common.{take, map}
use Rattle.std.specs.BTreeMap.{get}
use Rattle.std.specs.Ordering.{on}
use Rattle.value_types.specs.Order.{key_cmp}
use Rattle.group_rows.specs.Equals.{same_row}
use Rattle.group_rows.proofs.Gathering.{Gathered, row_of, same_row_laws}
use Rattle.group_rows.proofs.equals.classes.Given as goal

abbrev pub invariant-loop-place : goal.invariant-loop-place
invariant-loop-place l = Gathered same_row same_row_laws row_of (take l.place l.keys) (map (λ class. class.items) l.classes.items) (λ q. get (on row_of key_cmp) l.numbers q)
