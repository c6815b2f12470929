use Rattle.std.proofs.Common.{◌≡◌, ◌∙◌, subst}
use Rattle.shared_port.specs.Asked.{EngineSeat}
use Rattle.seat_server.specs.Posts.{Serves}
use Rattle.seat_server.proofs.Courses.{some_is}
use Rattle.seat_server.proofs.Serving.{serves_one}
use Rattle.seat_server.proofs.worker.Worker.serve.Goals as goal

pub returns : goal.returns
returns g c =
    let D = g.D.Door in
    let I = g.D.Line.Source in
    let O = g.D.Line.Sink in
    let served = c.serve_connection-seat in
    let back = c.finish.ensures in
    λ seat is.
    let same : c.in-Some.seat ≡ seat = some_is (c.in-Some.ensures.value ∙ is) in
    subst (λ (s : EngineSeat). Serves D.faults D.is_out D.has_closed I.left I.given I.faults O.written O.faults D.finished D.told c.args.config.now s c.args.self.now c.count.new.self) same
    (serves_one D.faults D.is_out D.has_closed I.left I.given I.faults O.written O.faults D.finished D.told c.args.config.now c.args.line served.new.line c.in-Some.seat served.result.0 served.result.1 c.args.self.now c.count.new.self c.finish.new.self
    c.requires.fresh served.ensures.served served.ensures.reads served.ensures.writes back.out back.finished back.told back.faults back.has_closed c.count.ensures)
