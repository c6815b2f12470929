use Rattle.std.proofs.Common.{rules, ◌≡◌, List, [], ◌∷◌, ◌++◌, length, reverse, refl, sym, ap, ◌∙◌, subst, arith, append_assoc, append-nil, length-append}
use Rattle.std.specs.Prelude.{Some}
use Rattle.std.proofs.lemmas.List.Elements.{All-pop}
use Rattle.shared_port.specs.Asked.{EngineSeat}
use Rattle.seat_server.specs.Posts.{AreHired, IsNewDoor}
use Rattle.seat_server.proofs.Dismissing.{hires_all, hires_one, share_at}
use Rattle.seat_server.proofs.workers.hire.Goals as goal

pub loop-door-init : goal.loop-door-init
loop-door-init g c =
    let D = g.D.Door in
    let seats = c.args.seats.now.items in (
      [],
      sym (append-nil seats),
      c.requires.many,
      subst (λ ws. AreHired D.faults D.is_out D.has_closed D.finished D.told c.args.rounds (length seats) (length seats) [] (reverse ws)) (sym c.requires.room.0) tt,
      c.requires.new,
      omega (arith, c.requires.room.1, ap length c.requires.room.0),
      refl,
    )

pub loop-door-preserved : goal.loop-door-preserved
loop-door-preserved g c =
    let D = g.D.Door in
    let i = c.loop-door.invariant in
    let seat = c.take_last-seat.result in
    let left = c.take_last-seat.new.self.items in
    let taken = c.take_last-seat.ensures.items in
    let pushed = c.push_reserved.ensures in
    let popped = c.in-Some.ensures.items in
    let doors = All-pop (IsNewDoor D.faults D.is_out D.has_closed D.finished D.told) c.loop-door.doors.items c.pop.new.self.items (Some c.in-Some.door) popped i.4 in
    let fewer = ap length taken ∙ length-append left (seat ∷ []) in (
      seat ∷ i.0,
      i.1 ∙ (ap (λ (l : List EngineSeat). l ++ i.0) taken ∙ append_assoc left (seat ∷ []) i.0),
      omega (arith, i.2, fewer, ap length popped, length-append c.pop.new.self.items (c.in-Some.door ∷ [])),
      hires_one D.faults D.is_out D.has_closed D.finished D.told c.args.rounds (length c.args.seats.now.items) c.loop-door.seats.items left i.0 seat c.loop-door.workers.items c.push_reserved.new.self.items c.new.result c.in-Some.door c.share_of-share.result taken pushed.items c.new.ensures
          (share_at c.args.rounds c.share_of-share.result _ (length c.args.seats.now.items) _ (length left) c.share_of-share.ensures (search rules) (search rules)) doors.1 i.3,
      doors.0,
      omega (arith, i.5, fewer, ap length pushed.items, length-append c.loop-door.workers.items (c.new.result ∷ []), pushed.capacity),
      c.take_last-seat.ensures.capacity ∙ i.6,
    )

pub returns-clause-hired : goal.returns-clause-hired
returns-clause-hired g c =
    let D = g.D.Door in
    let i = c.loop-door.invariant in
    let none : length c.loop-door.seats.items ≡ 0 = search rules in
    hires_all D.faults D.is_out D.has_closed D.finished D.told c.args.rounds (length c.args.seats.now.items) c.args.seats.now.items c.loop-door.seats.items i.0 c.loop-door.workers.items none i.1 i.3
