use Rattle.std.proofs.Common.{◌∷◌, [], length, ap, ◌∙◌, sym, subst, arith, length-append}
use Rattle.std.specs.List.{All}
use Rattle.std.proofs.lemmas.List.Elements.{All-push}
use Rattle.seat_server.specs.Posts.{IsNewDoor}
use Rattle.seat_server.proofs.Dismissing.{rises_from, rises_next, unmoved_made, unmoved_more}
use Rattle.seat_server.proofs.workers.open_doors.Goals as goal

pub loop-made-preserved : goal.loop-made-preserved
loop-made-preserved g c =
    let H = g.H.Hall in
    let D = g.H.Door.Door in
    let i = c.loop-made.invariant in
    let doors = c.loop-made.doors.items in
    let door = c.in-Ok.door in
    let made = c.in-Ok.ensures in
    let pushed = c.push_reserved.ensures in
    let fresh : IsNewDoor D.faults D.is_out D.has_closed D.finished D.told door = record { sound = made.door_faults; home = made.door_out; none = made.door_finished; open_yet = made.door_closed; nothing = made.door_told } in (
      omega (arith, i.0, ap length pushed.items, length-append doors (door ∷ [])),
      pushed.capacity ∙ i.1,
      subst (All (IsNewDoor D.faults D.is_out D.has_closed D.finished D.told)) (sym pushed.items) (All-push (IsNewDoor D.faults D.is_out D.has_closed D.finished D.told) doors door i.2 fresh),
      unmoved_more D.faults D.is_out D.has_closed D.finished D.told H.faults H.finished H.failed H.closed H.told c.args.hall.now c.loop-made.hall c.door.new.self i.3
          (unmoved_made D.faults D.is_out D.has_closed D.finished D.told H.faults H.finished H.failed H.closed H.told c.loop-made.hall c.door.new.self made.faults made.finished made.failed made.closed made.told),
      made.faults ∙ i.4,
      rises_next (H.made c.args.hall.now) (H.made c.loop-made.hall) (H.made c.door.new.self) c.loop-made._made _ i.5 made.made (omega arith),
      made.back ∙ i.6,
      made.begun ∙ i.7,
      made.at_port ∙ i.8,
    )

pub returns-in-Err-clause-unmoved : goal.returns-in-Err-clause-unmoved
returns-in-Err-clause-unmoved g c =
    let H = g.H.Hall in
    let D = g.H.Door.Door in
    let made = c.door.ensures in
    unmoved_more D.faults D.is_out D.has_closed D.finished D.told H.faults H.finished H.failed H.closed H.told c.args.hall.now c.door.new.self c.shut_doors.new.hall
    (unmoved_more D.faults D.is_out D.has_closed D.finished D.told H.faults H.finished H.failed H.closed H.told c.args.hall.now c.loop-made.hall c.door.new.self c.loop-made.invariant.3
    (unmoved_made D.faults D.is_out D.has_closed D.finished D.told H.faults H.finished H.failed H.closed H.told c.loop-made.hall c.door.new.self made.faults made.finished made.failed made.closed made.told))
    c.shut_doors.ensures.unmoved

pub returns-in-Err-clause-none : goal.returns-in-Err-clause-none
returns-in-Err-clause-none g c =
    let H = g.H.Hall in
    let i = c.loop-made.invariant in
    let shut = c.shut_doors.ensures in (
      c.loop-made._made,
      λ bound. shut.made ∙ (c.in-Err.ensures.unmade ∙ i.5 bound),
      rises_from (H.back c.args.hall.now) (H.back c.door.new.self) (H.back c.shut_doors.new.hall) (length c.loop-made.doors.items) c.loop-made._made (c.door.ensures.back ∙ i.6) shut.back i.0,
    )
