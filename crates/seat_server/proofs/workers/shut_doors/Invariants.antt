use Rattle.std.proofs.Common.{◌≡◌, length}
use Rattle.std.specs.List.{All}
use Rattle.seat_server.specs.Posts.{IsNewDoor, IsUnmoved}
use Rattle.seat_server.proofs.Dismissing.{SomeBack}
use Rattle.seat_server.proofs.workers.shut_doors.Given as goal

-- the hall is as it was but for the doors that came back, and those that are left are new
abbrev pub invariant-loop-door : goal.invariant-loop-door
invariant-loop-door g l =
    let H = g.H.Hall in
    let D = g.H.Door.Door in
    All (IsNewDoor D.faults D.is_out D.has_closed D.finished D.told) l.doors.items × IsUnmoved H.faults H.finished H.failed H.closed H.told l.fn.hall l.hall
    × (H.made l.hall ≡ H.made l.fn.hall) × SomeBack (H.back l.fn.hall) (H.back l.hall) (length l.fn.doors.items) (length l.doors.items)
    × (H.begun l.hall ≡ H.begun l.fn.hall) × (H.at_port l.hall ≡ H.at_port l.fn.hall)

abbrev pub decreases-loop-door : goal.decreases-loop-door
decreases-loop-door g l = goal.left-loop-door g l
