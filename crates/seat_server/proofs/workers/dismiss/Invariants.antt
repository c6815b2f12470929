use Rattle.std.proofs.Common.{◌≡◌, ◌+◌, ◌≤◌, length, reverse}
use Rattle.std.specs.Vec.{vec_capacity}
use Rattle.seat_server.specs.Posts.{count_after}
use Rattle.seat_server.proofs.Dismissing.{Dismisses}
use Rattle.seat_server.proofs.workers.dismiss.Given as goal

-- what the workers that are left make of what is here is what all of them make of what was
abbrev pub invariant-loop-worker : goal.invariant-loop-worker
invariant-loop-worker g l =
    let H = g.H.Hall in
    let D = g.H.Door.Door in
    Dismisses D.faults D.is_out D.has_closed D.finished D.told H.faults H.finished H.failed H.closed H.told l.fn.workers.items l.workers.items l.fn.hall l.hall l.fn.seats.items l.seats.items l.tally
    × (length l.seats.items + length l.workers.items ≤ vec_capacity l.seats) × (vec_capacity l.seats ≡ vec_capacity l.fn.seats)
    × (H.made l.hall ≡ H.made l.fn.hall) × (count_after (λ door. 1) (H.back l.hall) (reverse l.workers.items) ≡ count_after (λ door. 1) (H.back l.fn.hall) (reverse l.fn.workers.items))
    × (H.begun l.hall ≡ H.begun l.fn.hall) × (H.at_port l.hall ≡ H.at_port l.fn.hall)

abbrev pub decreases-loop-worker : goal.decreases-loop-worker
decreases-loop-worker g l = goal.left-loop-worker g l
