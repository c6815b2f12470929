use Rattle.std.proofs.Common.{◌≡◌, ◌+◌, ◌≤◌, List, ◌++◌, length, reverse}
use Rattle.std.specs.List.{All}
use Rattle.std.specs.Vec.{vec_capacity}
use Rattle.shared_port.specs.Asked.{EngineSeat}
use Rattle.seat_server.specs.Posts.{AreHired, IsNewDoor}
use Rattle.seat_server.proofs.workers.hire.Given as goal

-- those of the seats behind the ones that are left have workers
abbrev pub invariant-loop-door : goal.invariant-loop-door
invariant-loop-door g l =
    let D = g.D.Door in
    (taken : List EngineSeat) × (l.fn.seats.items ≡ l.seats.items ++ taken) × (length l.doors.items ≡ length l.seats.items)
    × AreHired D.faults D.is_out D.has_closed D.finished D.told l.fn.rounds (length l.fn.seats.items) (length l.seats.items) taken (reverse l.workers.items)
    × All (IsNewDoor D.faults D.is_out D.has_closed D.finished D.told) l.doors.items
    × (length l.workers.items + length l.seats.items ≤ vec_capacity l.workers) × (vec_capacity l.seats ≡ vec_capacity l.fn.seats)

abbrev pub decreases-loop-door : goal.decreases-loop-door
decreases-loop-door g l = length l.doors.items
