use Rattle.std.proofs.Common.{rules}
use Rattle.outside_io.specs.Bytes.{Takes}
use Rattle.seat_server.specs.House.{ServesFirst}
use Rattle.seat_server.specs.Served.{ServedConnection}
use Rattle.tsqld.specs.Program.{house_seats}
use Rattle.tsqld.proofs.Runs.{of_same}
use Rattle.tsqld.proofs.program.serve_joined.Goals as goal

pub returns-clause-full : goal.returns-clause-full
returns-clause-full g c = c.serve_first.ensures.full house_seats c.requires.full

pub returns-clause-served : goal.returns-clause-served
returns-clause-served g c =
    let line = c.serve_first.new.line in
    of_same (λ source sink. ServesFirst (λ old new. ServedConnection c.args.config.now (Takes g.S.Source.left g.S.Source.given c.args.source.now source) (g.S.Source.left source) (g.K.Sink.written c.args.sink.now) (g.K.Sink.written sink) old new c.serve_first.result) c.args.house.now.seats c.serve_first.new.self.seats)
    line.source.now _ line.sink.now _ (search rules) (search rules) c.serve_first.ensures.served
