use Rattle.std.proofs.Common.{◌≡◌, ℕ, List, ◌++◌, length, reverse, refl, ap, ◌∙◌, arith}
use Rattle.shared_port.specs.Asked.{EngineSeat}
use Rattle.seat_server.specs.Posts.{Begins, SomeMayClose, count_after, seats_of}
use Rattle.seat_server.specs.Workers.{RisesBy, numbers_of}
use Rattle.seat_server.proofs.Dismissed.{all_done, all_home}
use Rattle.seat_server.proofs.Dismissing.{all_reverse, begin_all, long_reverse, rises_from, unmoved_more}
use Rattle.seat_server.proofs.Totals.{all_closes, all_tallied, all_worked, none_tallied, none_worked}
use Rattle.seat_server.proofs.workers.serve_workers.Goals as goal

-- ---- where memory was wanting

pub returns-in_default-clause-worked : goal.returns-in_default-clause-worked
returns-in_default-clause-worked g c =
    let H = g.H.Hall in
    let I = g.H.Door.Line.Source in
    let O = g.H.Door.Line.Sink in
    none_worked I.left I.given I.faults O.written O.faults c.args.config.now c.args.rounds c.args.seats.items (H.told c.args.hall.now) (H.told c.open_doors.new.hall) c.without_memory.result c.open_doors.ensures.unmoved.told_same c.without_memory.ensures

pub returns-in_default-with_capacity-clause-worked : goal.returns-in_default-with_capacity-clause-worked
returns-in_default-with_capacity-clause-worked g c =
    let H = g.H.Hall in
    let D = g.H.Door.Door in
    let I = g.H.Door.Line.Source in
    let O = g.H.Door.Line.Sink in
    let unmoved = unmoved_more D.faults D.is_out D.has_closed D.finished D.told H.faults H.finished H.failed H.closed H.told c.args.hall.now c.open_doors.new.hall c.shut_doors.new.hall c.open_doors.ensures.unmoved c.shut_doors.ensures.unmoved in
    none_worked I.left I.given I.faults O.written O.faults c.args.config.now c.args.rounds c.args.seats.items (H.told c.args.hall.now) (H.told c.shut_doors.new.hall) c.without_memory-in_default-with_capacity.result unmoved.told_same c.without_memory-in_default-with_capacity.ensures

pub returns-in_default-clause-tallied : goal.returns-in_default-clause-tallied
returns-in_default-clause-tallied g c =
    let H = g.H.Hall in
    let numbers = numbers_of H.faults H.finished H.failed H.closed H.made H.back H.begun H.at_port in
    let unmoved = c.open_doors.ensures.unmoved in
    none_tallied c.args.rounds (length c.args.seats.items) (numbers c.args.hall.now) (numbers c.open_doors.new.hall) c.without_memory.result unmoved.faults_same unmoved.finished_same unmoved.failed_same unmoved.closed_same
    c.in_default.ensures.none c.without_memory.ensures

pub returns-in_default-with_capacity-clause-tallied : goal.returns-in_default-with_capacity-clause-tallied
returns-in_default-with_capacity-clause-tallied g c =
    let H = g.H.Hall in
    let D = g.H.Door.Door in
    let numbers = numbers_of H.faults H.finished H.failed H.closed H.made H.back H.begun H.at_port in
    let old = c.args.hall.now in
    let mid = c.open_doors.new.hall in
    let new = c.shut_doors.new.hall in
    let made = c.in-Ok.ensures in
    let shut = c.shut_doors.ensures in
    let unmoved = unmoved_more D.faults D.is_out D.has_closed D.finished D.told H.faults H.finished H.failed H.closed H.told old mid new c.open_doors.ensures.unmoved shut.unmoved in
    let many : ℕ = length c.args.seats.items in
    let long : c.len.result ≡ many = omega (arith, c.len.ensures) in
    let rises : RisesBy (H.made old) (H.made new) many = rises_from (H.made old) (H.made old) (H.made new) c.len.result many refl (λ bound. shut.made ∙ made.made bound) long in
    none_tallied c.args.rounds many (numbers old) (numbers new) c.without_memory-in_default-with_capacity.result unmoved.faults_same unmoved.finished_same unmoved.failed_same unmoved.closed_same
    (many, rises, rises_from (H.back old) (H.back mid) (H.back new) _ many made.away shut.back (made.many ∙ long)) c.without_memory-in_default-with_capacity.ensures

-- ---- where they served

pub serve_at_once-requires-clause-begin : goal.serve_at_once-requires-clause-begin
serve_at_once-requires-clause-begin g c κs within =
    let D = g.H.Door.Door in
    let seats = c.args.seats.items in
    let hired = c.hire.new.workers.items in
    all_reverse (Begins D.faults D.is_out D.has_closed c.args.desk.now.desk) hired
    (begin_all D.faults D.is_out D.has_closed D.finished D.told c.args.desk.now.desk c.args.rounds (length seats) 0 seats (reverse hired) c.hire.ensures.hired c.requires.desk c.requires.idle)

pub dismiss-tally-requires-clause-home : goal.dismiss-tally-requires-clause-home
dismiss-tally-requires-clause-home g c κs within =
    let D = g.H.Door.Door in
    let I = g.H.Door.Line.Source in
    let O = g.H.Door.Line.Sink in
    all_home D.faults D.is_out D.has_closed I.left I.given I.faults O.written O.faults D.finished D.told c.args.config.now c.args.desk.now.desk (SomeMayClose D.may_close) c.args.rounds (length c.args.seats.items)
    c.hire.new.workers.items c.serve_at_once.new.workers.items c.serve_at_once.ensures

pub dismiss-tally-requires-clause-room : goal.dismiss-tally-requires-clause-room
dismiss-tally-requires-clause-room g c =
    let D = g.H.Door.Door in
    let I = g.H.Door.Line.Source in
    let O = g.H.Door.Line.Sink in
    let seats = c.args.seats in
    let workers = c.serve_at_once.new.workers.items in
    let done = all_done D.faults D.is_out D.has_closed I.left I.given I.faults O.written O.faults D.finished D.told c.args.config.now c.args.desk.now.desk (SomeMayClose D.may_close) c.args.rounds (length seats.items)
    seats.items c.hire.new.workers.items workers c.hire.ensures.hired c.serve_at_once.ensures in
    omega (arith, ap length c.hire.ensures.left, c.hire.ensures.capacity, done.as_many, long_reverse workers, seats.ok.0, seats.ok.1)

pub returns-clause-worked : goal.returns-clause-worked
returns-clause-worked g c =
    let H = g.H.Hall in
    let D = g.H.Door.Door in
    let I = g.H.Door.Line.Source in
    let O = g.H.Door.Line.Sink in
    let seats = c.args.seats.items in
    let workers = c.serve_at_once.new.workers.items in
    let given = c.dismiss-tally in
    all_worked D.faults D.is_out D.has_closed I.left I.given I.faults O.written O.faults D.finished D.told c.args.config.now c.args.desk.now.desk (SomeMayClose D.may_close) c.args.rounds seats given.new.seats.items (reverse workers) given.result
    (all_done D.faults D.is_out D.has_closed I.left I.given I.faults O.written O.faults D.finished D.told c.args.config.now c.args.desk.now.desk (SomeMayClose D.may_close) c.args.rounds (length seats)
    seats c.hire.new.workers.items workers c.hire.ensures.hired c.serve_at_once.ensures)
    given.ensures.tally (H.told c.args.hall.now) (H.told c.open_doors.new.hall) (H.told given.new.hall) c.requires.few c.open_doors.ensures.unmoved.told_same given.ensures.told
    (given.ensures.seats ∙ ap (λ (l : List EngineSeat). l ++ seats_of (reverse workers)) c.hire.ensures.left)

pub returns-clause-tallied : goal.returns-clause-tallied
returns-clause-tallied g c =
    let H = g.H.Hall in
    let D = g.H.Door.Door in
    let I = g.H.Door.Line.Source in
    let O = g.H.Door.Line.Sink in
    let seats = c.args.seats.items in
    let workers = c.serve_at_once.new.workers.items in
    let given = c.dismiss-tally in
    let old = c.args.hall.now in
    let mid = c.open_doors.new.hall in
    let new = given.new.hall in
    let numbers = numbers_of H.faults H.finished H.failed H.closed H.made H.back H.begun H.at_port in
    let unmoved = c.open_doors.ensures.unmoved in
    let long : c.len.result ≡ length seats = omega (arith, c.len.ensures) in
    all_tallied D.faults D.is_out D.has_closed I.left I.given I.faults O.written O.faults D.finished D.told c.args.config.now c.args.desk.now.desk (SomeMayClose D.may_close) c.args.rounds seats given.new.seats.items (reverse workers) given.result
    (all_done D.faults D.is_out D.has_closed I.left I.given I.faults O.written O.faults D.finished D.told c.args.config.now c.args.desk.now.desk (SomeMayClose D.may_close) c.args.rounds (length seats)
    seats c.hire.new.workers.items workers c.hire.ensures.hired c.serve_at_once.ensures)
    given.ensures.tally (numbers old) (numbers mid) (numbers new) c.requires.few c.requires.some c.law_rounds.ensures
    unmoved.finished_same unmoved.failed_same unmoved.closed_same
    (rises_from (H.made old) (H.made old) (H.made mid) c.len.result (length seats) refl c.in-Ok.ensures.made long) c.in-Ok.ensures.away (given.ensures.faults ∙ ap (λ n. count_after D.faults n (reverse workers)) c.in-Ok.ensures.faults) given.ensures.finished given.ensures.failed given.ensures.closed given.ensures.made given.ensures.back

pub returns-clause-may_close : goal.returns-clause-may_close
returns-clause-may_close g c =
    let D = g.H.Door.Door in
    let I = g.H.Door.Line.Source in
    let O = g.H.Door.Line.Sink in
    let seats = c.args.seats.items in
    let workers = c.serve_at_once.new.workers.items in
    let given = c.dismiss-tally in
    all_closes D.faults D.is_out D.has_closed I.left I.given I.faults O.written O.faults D.finished D.told c.args.config.now c.args.desk.now.desk (SomeMayClose D.may_close) c.args.rounds seats given.new.seats.items (reverse workers) given.result
    (all_done D.faults D.is_out D.has_closed I.left I.given I.faults O.written O.faults D.finished D.told c.args.config.now c.args.desk.now.desk (SomeMayClose D.may_close) c.args.rounds (length seats)
    seats c.hire.new.workers.items workers c.hire.ensures.hired c.serve_at_once.ensures)
    given.ensures.tally c.requires.few
