use Rattle.std.proofs.Common.{◌≡◌, [], ◌∷◌, length, ap, ◌∙◌, arith, length-append}
use Rattle.std.specs.Prelude.{Some, false}
use Rattle.std.proofs.lemmas.List.Elements.{All-pop}
use Rattle.seat_server.specs.Posts.{with_seat}
use Rattle.seat_server.proofs.Dismissing.{after_one, dismisses_one, one_at_most}
use Rattle.seat_server.proofs.workers.dismiss.Goals as goal

pub loop-worker-preserved : goal.loop-worker-preserved
loop-worker-preserved g c =
    let H = g.H.Hall in
    let D = g.H.Door.Door in
    let i = c.loop-worker.invariant in
    let back = c.rejoin.ensures in
    let left = c.pop.new.self.items in
    let worker = c.in-Some.worker in
    let popped = c.in-Some.ensures.items in
    let here = c.loop-worker.seats.items in
    let home = All-pop (λ worker. D.is_out worker.door ≡ false) c.loop-worker.workers.items left (Some worker) popped i.0.home in (
      dismisses_one D.faults D.is_out D.has_closed D.finished D.told H.faults H.finished H.failed H.closed H.told c.args.workers.items c.loop-worker.workers.items left worker c.args.hall.now c.loop-worker.hall c.rejoin.new.self c.args.seats.now.items here c.give_back.new.seats.items
          c.loop-worker.tally c.count.new.self popped c.count.ensures c.give_back.ensures.seats back.faults back.finished back.failed back.closed back.told home.0 i.0,
      omega (arith, i.1, c.give_back.ensures.capacity, ap length c.give_back.ensures.seats, length-append here (with_seat worker.seat []), one_at_most worker.seat, ap length popped, length-append left (worker ∷ [])),
      c.give_back.ensures.capacity ∙ i.2,
      back.made ∙ i.3,
      after_one (λ door. 1) c.loop-worker.workers.items left worker (H.back c.loop-worker.hall) (H.back c.rejoin.new.self) _ popped back.back i.4,
      back.begun ∙ i.5,
      back.at_port ∙ i.6,
    )
