use Rattle.outside_io.specs.Bytes.{Takes}
use Rattle.tds_packets.specs.Packets.{Packets, default_size}
use Rattle.tds_client.proofs.Lined.{takes_none}
use Rattle.tds_client.proofs.OneTurn.{answered, missed_ends, unsent_ends}
use Rattle.tds_client.proofs.exchange.exchange.Goals as goal

pub returns-in_err-send-clause-ended : goal.returns-in_err-send-clause-ended
returns-in_err-send-clause-ended g c =
    unsent_ends c.args.turn (Packets c.args.kind 0 default_size c.args.payload.now) c.args.reader.now (Takes g.L.Source.left g.L.Source.given c.args.line.now c.send.new.line) (g.L.Source.left c.send.new.line) (g.L.Sink.written c.args.line.now) (g.L.Sink.written c.send.new.line)
    c.from_residual.result c.in_err-send.field-0.0 c.from_residual.ensures.1 (takes_none g.L.Source.left g.L.Source.given c.args.line.now c.send.new.line c.send.ensures.left c.send.ensures.given) c.in_err-send.ensures.part

pub returns-clause-answered : goal.returns-clause-answered
returns-clause-answered g c =
    answered g.L.Source.left g.L.Source.given c.args.line.now c.send.new.line c.receive.new.line c.send.ensures.left c.send.ensures.given (Packets c.args.kind 0 default_size c.args.payload.now) c.args.reader.now
    (g.L.Sink.written c.args.line.now) (g.L.Sink.written c.send.new.line) (g.L.Sink.written c.receive.new.line) c.in_ok-send.ensures.sent c.receive.ensures.unwritten c.receive.new.reader c.receive.result c.receive.ensures.replied

pub returns-clause-ended : goal.returns-clause-ended
returns-clause-ended g c =
    missed_ends g.L.Source.left g.L.Source.given c.args.line.now c.send.new.line c.receive.new.line c.send.ensures.left c.send.ensures.given (Packets c.args.kind 0 default_size c.args.payload.now) c.args.reader.now
    (g.L.Sink.written c.args.line.now) (g.L.Sink.written c.send.new.line) (g.L.Sink.written c.receive.new.line) c.in_ok-send.ensures.sent c.receive.ensures.unwritten c.args.turn c.receive.result c.receive.ensures.missed
