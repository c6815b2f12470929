use Rattle.std.proofs.Common.{rules, ◌≡◌, [], ◌∷◌, length, refl, ap, ◌∙◌, length-append}
use Rattle.std.specs.Prelude.{Some}
use Rattle.std.proofs.lemmas.List.Elements.{All-pop}
use Rattle.seat_server.specs.Posts.{IsNewDoor}
use Rattle.seat_server.proofs.Dismissing.{all_back, none_back, one_back, unmoved_back, unmoved_more, unmoved_self}
use Rattle.seat_server.proofs.workers.shut_doors.Goals as goal

pub loop-door-init : goal.loop-door-init
loop-door-init g c =
    let H = g.H.Hall in
    let D = g.H.Door.Door in (
      c.requires.new,
      unmoved_self D.faults D.is_out D.has_closed D.finished D.told H.faults H.finished H.failed H.closed H.told c.args.hall.now,
      refl,
      none_back (H.back c.args.hall.now) (length c.args.doors.items),
      refl,
      refl,
    )

pub loop-door-preserved : goal.loop-door-preserved
loop-door-preserved g c =
    let H = g.H.Hall in
    let D = g.H.Door.Door in
    let i = c.loop-door.invariant in
    let back = c.rejoin.ensures in
    let popped = c.in-Some.ensures.items in
    let doors = All-pop (IsNewDoor D.faults D.is_out D.has_closed D.finished D.told) c.loop-door.doors.items c.pop.new.self.items (Some c.in-Some.door) popped i.0 in (
      doors.0,
      unmoved_more D.faults D.is_out D.has_closed D.finished D.told H.faults H.finished H.failed H.closed H.told c.args.hall.now c.loop-door.hall c.rejoin.new.self i.1
          (unmoved_back D.faults D.is_out D.has_closed D.finished D.told H.faults H.finished H.failed H.closed H.told c.loop-door.hall c.rejoin.new.self c.in-Some.door doors.1 back.faults back.finished back.failed back.closed back.told),
      back.made ∙ i.2,
      one_back (H.back c.args.hall.now) (H.back c.loop-door.hall) (H.back c.rejoin.new.self) (length c.args.doors.items) (length c.loop-door.doors.items) (length c.pop.new.self.items) i.3 back.back
          (ap length popped ∙ length-append c.pop.new.self.items (c.in-Some.door ∷ [])),
      back.begun ∙ i.4,
      back.at_port ∙ i.5,
    )

pub returns-clause-back : goal.returns-clause-back
returns-clause-back g c =
    let H = g.H.Hall in
    let none : length c.loop-door.doors.items ≡ 0 = search rules in
    all_back (H.back c.args.hall.now) (H.back c.loop-door.hall) (length c.args.doors.items) (length c.loop-door.doors.items) c.loop-door.invariant.3 none
