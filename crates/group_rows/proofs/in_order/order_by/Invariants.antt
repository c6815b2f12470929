use Rattle.std.proofs.Common.{◌≡◌, drop}
use Rattle.group_rows.specs.Ordered.{order_by}
use Rattle.group_rows.proofs.in_order.order_by.Given as goal

-- the columns so far tie, so what is left decides
abbrev pub invariant-loop-place : goal.invariant-loop-place
invariant-loop-place l = order_by l.downs l.a l.b ≡ order_by (drop l.place l.downs) (drop l.place l.a) (drop l.place l.b)
