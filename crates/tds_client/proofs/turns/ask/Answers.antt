use Rattle.std.proofs.Common.{ℕ, List, IfErr, IfOk, subst, ◌∙◌}
use Rattle.std.specs.Global.{Vec}
use Rattle.outside_io.specs.Bytes.{Takes}
use Rattle.tds_packets.specs.declared.message.Message.{Message}
use Rattle.tds_packets.specs.Header.{sql_batch}
use Rattle.tds_packets.specs.Packets.{Packets, default_size}
use Rattle.tds_packets.proofs.Taken.{Takes-nil}
use Rattle.tds_tokens.specs.declared.token.Token.{Token}
use Rattle.tds_client.specs.declared.turn.Turn.TheVariants as turns
use Rattle.tds_client.specs.Sending.{batch_payload, packets_at}
use Rattle.tds_client.specs.Replies.{Carries}
use Rattle.tds_client.specs.Parts.{Answered, EndsInTurn}
use Rattle.tds_client.proofs.OneTurn.{unmade_ends}
use Rattle.tds_client.proofs.turns.ask.Goals as goal

pub returns-in_err-payload-clause-ended : goal.returns-in_err-payload-clause-ended
returns-in_err-payload-clause-ended g c =
    unmade_ends turns.Batch (packets_at turns.Batch (batch_payload c.args.text.now)) c.args.reader.now (Takes g.L.Source.left g.L.Source.given c.args.line.now c.args.line.now) (g.L.Source.left c.args.line.now) (g.L.Sink.written c.args.line.now)
    c.from_residual.result c.from_residual.ensures.1 (Takes-nil g.L.Source.left g.L.Source.given c.args.line.now)

pub returns-clause-answered : goal.returns-clause-answered
returns-clause-answered g c =
    subst (λ (s : List ℕ). IfOk c.tokens_for.result (λ (tokens : Vec Token). (reply : Message) × Answered (Packets sql_batch 0 default_size s) c.args.reader.now c.tokens_for.new.reader (Takes g.L.Source.left g.L.Source.given c.args.line.now c.tokens_for.new.line) (g.L.Sink.written c.args.line.now) (g.L.Sink.written c.tokens_for.new.line) reply × Carries reply tokens.items))
    (c.deref.ensures.value ∙ c.in_ok-payload.ensures) c.tokens_for.ensures.answered

pub returns-clause-ended : goal.returns-clause-ended
returns-clause-ended g c =
    subst (λ (s : List ℕ). IfErr c.tokens_for.result (EndsInTurn turns.Batch (Packets sql_batch 0 default_size s) c.args.reader.now (Takes g.L.Source.left g.L.Source.given c.args.line.now c.tokens_for.new.line) (g.L.Source.left c.tokens_for.new.line) (g.L.Sink.written c.args.line.now) (g.L.Sink.written c.tokens_for.new.line)))
    (c.deref.ensures.value ∙ c.in_ok-payload.ensures) c.tokens_for.ensures.ended
