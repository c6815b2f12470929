use Rattle.std.proofs.Common.{◌≡◌, length}
use Rattle.std.specs.List.{All}
use Rattle.std.specs.Vec.{vec_capacity}
use Rattle.seat_server.specs.Posts.{IsNewDoor, IsUnmoved}
use Rattle.seat_server.specs.Workers.{RisesBy}
use Rattle.seat_server.proofs.workers.open_doors.Given as goal

-- so many doors are made, and there is room for the others
abbrev pub invariant-loop-made : goal.invariant-loop-made
invariant-loop-made g l =
    let H = g.H.Hall in
    let D = g.H.Door.Door in
    (length l.doors.items ≡ l._made) × (vec_capacity l.doors ≡ l.fn.many) × All (IsNewDoor D.faults D.is_out D.has_closed D.finished D.told) l.doors.items
    × IsUnmoved H.faults H.finished H.failed H.closed H.told l.fn.hall l.hall × (H.faults l.hall ≡ H.faults l.fn.hall)
    × RisesBy (H.made l.fn.hall) (H.made l.hall) l._made × (H.back l.hall ≡ H.back l.fn.hall)
    × (H.begun l.hall ≡ H.begun l.fn.hall) × (H.at_port l.hall ≡ H.at_port l.fn.hall)
