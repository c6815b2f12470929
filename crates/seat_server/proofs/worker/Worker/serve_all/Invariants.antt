use Rattle.seat_server.proofs.Serving.{GoesOn}
use Rattle.seat_server.proofs.worker.Worker.serve_all.Given as goal

-- it has served some connections by its seat, and its door gives more
abbrev pub invariant-loop : goal.invariant-loop
invariant-loop g l =
    let D = g.D.Door in
    let I = g.D.Line.Source in
    let O = g.D.Line.Sink in
    GoesOn D.faults D.is_out D.has_closed I.left I.given I.faults O.written O.faults D.finished D.told l.fn.config l.fn.desk.desk l.fn.self l.self
