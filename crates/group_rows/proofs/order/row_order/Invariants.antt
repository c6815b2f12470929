use Rattle.std.proofs.Common.{◌≡◌, length, drop}
use Rattle.value_types.specs.Order.{key_cmp}
use Rattle.group_rows.proofs.order.row_order.Given as goal

-- the values so far compare equal, so what is left decides
abbrev pub invariant-loop-x : goal.invariant-loop-x
invariant-loop-x l = key_cmp l.a l.b ≡ key_cmp (drop (length l.yielded) l.a) (drop (length l.yielded) l.b)
