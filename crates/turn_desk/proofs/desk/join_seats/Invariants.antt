use Rattle.std.proofs.Common.{◌≡◌, [], ◌++◌, map}
use Rattle.std.specs.List.{All}
use Rattle.turn_desk.specs.Views.{IsIdle, pasts, past_of_seat}
use Rattle.turn_desk.proofs.desk.join_seats.Given as goal

-- what the seats that are left did, and what is put together, is what all seats did
abbrev pub invariant-loop-seat : goal.invariant-loop-seat
invariant-loop-seat g l =
    (l.token.table_id ≡ l.fn.table.table_id) × (l.token.me.1 ≡ []) × IsIdle l.token.me.0
    × (map past_of_seat l.fn.seats.items ≡ map past_of_seat l.seats.items ++ pasts l.token.me.0)
    × All (λ s. s.desk ≡ l.fn.table.table_id) l.seats.items

abbrev pub decreases-loop-seat : goal.decreases-loop-seat
decreases-loop-seat g l = goal.left-loop-seat g l
