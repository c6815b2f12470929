use Rattle.std.proofs.Common.{rules, ◌≡◌, false, refl, sym, ◌∙◌}
use Rattle.outside_io.specs.Doors.{gives_none}
use Rattle.seat_server.specs.declared.worker.Outcome.TheVariants.{Going, Closed}
use Rattle.seat_server.proofs.Serving.{still_so, worked_one}
use Rattle.seat_server.proofs.worker.Worker.serve_next.Goals as goal

pub returns-in-Ok-Some-clause-closes : goal.returns-in-Ok-Some-clause-closes
returns-in-Ok-Some-clause-closes g c =
    let serves = c.serve.ensures c.requires.post.0 c.requires.post.1.has in
    λ closed. absurd (let no : Going ≡ Closed = sym c.requires.going ∙ (sym serves.outcome_same ∙ closed) in cc)

pub returns-in-Ok-Some-clause-one : goal.returns-in-Ok-Some-clause-one
returns-in-Ok-Some-clause-one g c =
    let D = g.D.Door in
    let I = g.D.Line.Source in
    let O = g.D.Line.Sink in
    let old = c.args.self.now in
    let came = c.in-Ok-Some.ensures in
    let serves = c.serve.ensures c.requires.post.0 c.requires.post.1.has in
    let none : gives_none c.accept.result ≡ false = search rules in
    λ one. (
      serves.outcome_same ∙ c.requires.going,
      λ seat posted. worked_one D.faults D.is_out D.has_closed I.left I.given I.faults O.written O.faults D.finished D.told c.args.config.now c.args.desk.now.desk seat old (record old { door = c.accept.new.self }) c.serve.new.self posted
          came.finished came.told came.no_fault (still_so (D.has_closed old.door) (D.has_closed c.accept.new.self) (gives_none c.accept.result) c.accept.ensures.has_closed none) refl (c.serve.ensures seat posted.has),
    )
