use Rattle.std.proofs.Common.{rules, ◌≡◌, true, sym, ◌∙◌}
use Rattle.seat_server.proofs.Serving.{begins_so, goes_more}
use Rattle.seat_server.proofs.worker.Worker.serve_all.Goals as goal

pub loop-init : goal.loop-init
loop-init g c =
    let D = g.D.Door in
    let I = g.D.Line.Source in
    let O = g.D.Line.Sink in
    begins_so D.faults D.is_out D.has_closed I.left I.given I.faults O.written O.faults D.finished D.told c.args.config.now c.args.desk.now.desk c.args.self.now c.requires.begin

pub serve_next-requires-clause-post : goal.serve_next-requires-clause-post
serve_next-requires-clause-post g c κs within = (c.loop.invariant.new_seat, c.loop.invariant.worked.posted)

pub serve_next-requires-clause-going : goal.serve_next-requires-clause-going
serve_next-requires-clause-going g c κs within = c.loop.invariant.going

pub loop-preserved : goal.loop-preserved
loop-preserved g c =
    let D = g.D.Door in
    let I = g.D.Line.Source in
    let O = g.D.Line.Sink in
    let came : c.serve_next.result ≡ true = search rules in
    let served = c.serve_next.ensures.one came in
    goes_more D.faults D.is_out D.has_closed I.left I.given I.faults O.written O.faults D.finished D.told c.args.config.now c.args.desk.now.desk c.args.self.now c.loop.self c.serve_next.new.self
    c.requires.begin.2 c.has_served_all.ensures.range c.loop.invariant (sym c.has_served_all.ensures.served ∙ c.if-has_served_all.false) served.0 served.1
