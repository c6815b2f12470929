use Rattle.std.proofs.Common.{◌≡◌, ◌+◌, ◌-◌, ◌≤◌, ◌++◌, length, reverse}
use Rattle.std.specs.Vec.{vec_capacity}
use Rattle.seat_server.proofs.house.stand_aside.Given as goal

-- those that are left, and those that stand aside, are all
abbrev pub invariant-loop-others : goal.invariant-loop-others
invariant-loop-others l =
    (l.fn.seats.items ≡ l.seats.items ++ reverse l.others.items) × (l.fn.many ≤ length l.seats.items)
    × (length l.seats.items ≤ vec_capacity l.others - length l.others.items + l.fn.many) × (vec_capacity l.seats ≡ vec_capacity l.fn.seats)

abbrev pub decreases-loop-others : goal.decreases-loop-others
decreases-loop-others l = length l.seats.items
