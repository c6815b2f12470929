use Rattle.std.proofs.Common.{ℕ, List, subst}
use Rattle.outside_io.specs.Bytes.{Takes}
use Rattle.tds_packets.specs.Header.{prelogin}
use Rattle.tds_packets.specs.Packets.{Packets, default_size}
use Rattle.tds_client.specs.declared.turn.Turn.TheVariants as turns
use Rattle.tds_client.specs.Sending.{packets_at, prelogin_payload}
use Rattle.tds_client.specs.Parts.{Answered, EndsInTurn}
use Rattle.tds_client.proofs.OneTurn.{ended_as, greeted, greeting_ends}
use Rattle.tds_client.proofs.turns.greet.Goals as goal

pub returns-in_err-reply-clause-ended : goal.returns-in_err-reply-clause-ended
returns-in_err-reply-clause-ended g c =
    ended_as (EndsInTurn turns.Prelogin (packets_at turns.Prelogin prelogin_payload) c.args.reader.now (Takes g.L.Source.left g.L.Source.given c.args.line.now c.exchange.new.line) (g.L.Source.left c.exchange.new.line) (g.L.Sink.written c.args.line.now) (g.L.Sink.written c.exchange.new.line))
    c.from_residual.result c.in_err-reply.field-0.0 c.from_residual.ensures.1
    (subst (λ (s : List ℕ). EndsInTurn turns.Prelogin (Packets prelogin 0 default_size s) c.args.reader.now (Takes g.L.Source.left g.L.Source.given c.args.line.now c.exchange.new.line) (g.L.Source.left c.exchange.new.line) (g.L.Sink.written c.args.line.now) (g.L.Sink.written c.exchange.new.line) c.in_err-reply.field-0.0) c.prelogin_payload-payload.ensures c.in_err-reply.ensures.ended)

pub returns-clause-greeted : goal.returns-clause-greeted
returns-clause-greeted g c =
    greeted (packets_at turns.Prelogin prelogin_payload) c.args.reader.now c.exchange.new.reader (Takes g.L.Source.left g.L.Source.given c.args.line.now c.exchange.new.line) (g.L.Sink.written c.args.line.now) (g.L.Sink.written c.exchange.new.line)
    c.in_ok-reply.reply
    (subst (λ (s : List ℕ). Answered (Packets prelogin 0 default_size s) c.args.reader.now c.exchange.new.reader (Takes g.L.Source.left g.L.Source.given c.args.line.now c.exchange.new.line) (g.L.Sink.written c.args.line.now) (g.L.Sink.written c.exchange.new.line) c.in_ok-reply.reply) c.prelogin_payload-payload.ensures c.in_ok-reply.ensures.answered)
    c.as_slice.result.now c.as_slice.ensures c.judge_greeting.result c.judge_greeting.ensures.value

pub returns-clause-ended : goal.returns-clause-ended
returns-clause-ended g c =
    greeting_ends (packets_at turns.Prelogin prelogin_payload) c.args.reader.now c.exchange.new.reader (Takes g.L.Source.left g.L.Source.given c.args.line.now c.exchange.new.line) (g.L.Sink.written c.args.line.now) (g.L.Sink.written c.exchange.new.line)
    c.in_ok-reply.reply
    (subst (λ (s : List ℕ). Answered (Packets prelogin 0 default_size s) c.args.reader.now c.exchange.new.reader (Takes g.L.Source.left g.L.Source.given c.args.line.now c.exchange.new.line) (g.L.Sink.written c.args.line.now) (g.L.Sink.written c.exchange.new.line) c.in_ok-reply.reply) c.prelogin_payload-payload.ensures c.in_ok-reply.ensures.answered)
    c.as_slice.result.now c.as_slice.ensures (g.L.Source.left c.exchange.new.line) c.judge_greeting.result c.judge_greeting.ensures.value
