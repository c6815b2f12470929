use Rattle.outside_io.specs.Bytes.{Takes}
use Rattle.tds_packets.specs.Packets.{Packets, default_size}
use Rattle.tds_client.specs.Parts.{EndsInTurn}
use Rattle.tds_client.proofs.OneTurn.{carried, ended_as, unread_ends}
use Rattle.tds_client.proofs.exchange.tokens_for.Goals as goal

pub returns-in_err-reply-clause-ended : goal.returns-in_err-reply-clause-ended
returns-in_err-reply-clause-ended g c =
    ended_as (EndsInTurn c.args.turn (Packets c.args.kind 0 default_size c.args.payload.now) c.args.reader.now (Takes g.L.Source.left g.L.Source.given c.args.line.now c.exchange.new.line) (g.L.Source.left c.exchange.new.line) (g.L.Sink.written c.args.line.now) (g.L.Sink.written c.exchange.new.line))
    c.from_residual.result c.in_err-reply.field-0.0 c.from_residual.ensures.1 c.in_err-reply.ensures.ended

pub returns-clause-answered : goal.returns-clause-answered
returns-clause-answered g c =
    carried (Packets c.args.kind 0 default_size c.args.payload.now) c.args.reader.now c.exchange.new.reader (Takes g.L.Source.left g.L.Source.given c.args.line.now c.exchange.new.line) (g.L.Sink.written c.args.line.now) (g.L.Sink.written c.exchange.new.line)
    c.in_ok-reply.reply c.in_ok-reply.ensures.answered c.as_slice.result.now c.as_slice.ensures c.read_reply.result c.read_reply.ensures.tokens

pub returns-clause-ended : goal.returns-clause-ended
returns-clause-ended g c =
    unread_ends (Packets c.args.kind 0 default_size c.args.payload.now) c.args.reader.now c.exchange.new.reader (Takes g.L.Source.left g.L.Source.given c.args.line.now c.exchange.new.line) (g.L.Sink.written c.args.line.now) (g.L.Sink.written c.exchange.new.line)
    c.in_ok-reply.reply c.in_ok-reply.ensures.answered c.as_slice.result.now c.as_slice.ensures (g.L.Source.left c.exchange.new.line) c.args.turn c.requires c.read_reply.result c.read_reply.ensures.unread
