use Rattle.std.proofs.Common.{◌≡◌, ◌+◌, ◌≤◌, ◌++◌, length, reverse}
use Rattle.std.specs.Vec.{vec_capacity}
use Rattle.seat_server.proofs.house.stand_back.Given as goal

-- those that are here, and those that still stand aside, are all
abbrev pub invariant-loop-seat : goal.invariant-loop-seat
invariant-loop-seat l =
    (l.seats.items ++ reverse l.others.items ≡ l.fn.seats.items ++ reverse l.fn.others.items)
    × (length l.seats.items + length l.others.items ≤ vec_capacity l.seats)

abbrev pub decreases-loop-seat : goal.decreases-loop-seat
decreases-loop-seat l = goal.left-loop-seat l
