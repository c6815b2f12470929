use Rattle.seat_server.proofs.Serving.{served_at}
use Rattle.seat_server.proofs.connection.serve_seat.Goals as goal

pub returns-clause-served : goal.returns-clause-served
returns-clause-served g c =
    served_at c.args.config.now _ _ _ _ c.args.seat c.into_seat-seat.result c.serve_on_port-end.result g.E.Entrance.entry c.number-number.result c.new-port.result c.serve_on_port-end.new.port
    c.requires.entry c.number-number.ensures.number c.new-port.ensures.seat c.into_seat-seat.ensures.seat c.requires.idle c.new-port.ensures.entry c.law_within.ensures c.serve_on_port-end.ensures.idle c.serve_on_port-end.ensures.conversation
