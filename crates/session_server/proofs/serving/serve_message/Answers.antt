use Rattle.std.proofs.Common.{arith}
use Rattle.outside_io.specs.Bytes.{Takes}
use Rattle.session_server.proofs.Lined.{takes_still}
use Rattle.session_server.proofs.Turns.{ended_stopped, ended_unmade, ended_unsent, ended_behind, ended_alone, handled_sized, turned}
use Rattle.session_server.proofs.serving.serve_message.Goals as goal

pub returns-in_err-message-clause-ended : goal.returns-in_err-message-clause-ended
returns-in_err-message-clause-ended g c = ended_stopped c.args.config.now c.args.spid c.args.reader.now c.args.state.now (Takes g.L.Source.left g.L.Source.given c.args.line.now c.next_message.new.line) (g.L.Source.left c.next_message.new.line) (g.P.Port.past c.args.port.now) c.next_message.ensures.unwritten c.args.session.now c.from_residual.result c.in_err-message.field-0.0 c.from_residual.ensures.0 c.from_residual.ensures.1 c.in_err-message.ensures.next.0 c.in_err-message.ensures.next.1 c.in_err-message.ensures.next.3 c.in_err-message.ensures.ended

pub returns-in_err-response-clause-ended : goal.returns-in_err-response-clause-ended
returns-in_err-response-clause-ended g c = ended_unmade c.args.config.now c.args.spid c.args.reader.now c.args.state.now (Takes g.L.Source.left g.L.Source.given c.args.line.now c.next_message.new.line) (g.L.Source.left c.next_message.new.line) c.next_message.ensures.unwritten c.from_residual-in_err-response.result c.from_residual-in_err-response.ensures.0 c.from_residual-in_err-response.ensures.1 c.in_ok-message.ensures.next.0 c.in_ok-message.ensures.next.1 c.in_ok-message.message c.in_ok-message.ensures.next.3 c.in_err-response.ensures.handled

pub returns-in_err-send-in-Responds-clause-ended : goal.returns-in_err-send-in-Responds-clause-ended
returns-in_err-send-in-Responds-clause-ended g c = ended_unsent c.args.config.now c.args.spid c.args.reader.now c.args.state.now (Takes g.L.Source.left g.L.Source.given c.args.line.now c.send.new.line) (g.L.Source.left c.send.new.line) (g.L.Sink.written c.send.new.line) c.next_message.ensures.unwritten c.in_ok-message.ensures.next.0 (takes_still g.L.Source.left g.L.Source.given c.args.line.now c.next_message.new.line c.send.new.line c.send.ensures.left c.send.ensures.given c.in_ok-message.ensures.next.1) c.in_ok-message.message c.in_ok-message.ensures.next.3 c.in-Responds.next _ (rw c.in-Responds.is at c.in_ok-response.ensures.handled) c.from_residual-in_err-send-in-Responds.result c.in_err-send-in-Responds.field-0.0 c.from_residual-in_err-send-in-Responds.ensures.0 c.from_residual-in_err-send-in-Responds.ensures.1 c.in_err-send-in-Responds.ensures.part

pub returns-in-Responds-clause-ended : goal.returns-in-Responds-clause-ended
returns-in-Responds-clause-ended g c = ended_behind c.args.config.now c.args.spid c.args.reader.now c.args.state.now (Takes g.L.Source.left g.L.Source.given c.args.line.now c.send.new.line) (g.L.Source.left c.send.new.line) (g.L.Sink.written c.send.new.line) c.next_message.ensures.unwritten c.in_ok-message.ensures.next.0 (takes_still g.L.Source.left g.L.Source.given c.args.line.now c.next_message.new.line c.send.new.line c.send.ensures.left c.send.ensures.given c.in_ok-message.ensures.next.1) c.in_ok-message.message c.in_ok-message.ensures.next.3 c.in-Responds.next _ (rw c.in-Responds.is at c.in_ok-response.ensures.handled) c.in_ok-send-in-Responds.ensures.sent

pub returns-in-Responds-clause-turned : goal.returns-in-Responds-clause-turned
returns-in-Responds-clause-turned g c = turned c.args.config.now c.args.spid c.args.reader.now c.args.state.now (Takes g.L.Source.left g.L.Source.given c.args.line.now c.send.new.line) (g.L.Source.left c.send.new.line) (g.L.Sink.written c.send.new.line) c.next_message.ensures.unwritten c.in_ok-message.ensures.next.0 (takes_still g.L.Source.left g.L.Source.given c.args.line.now c.next_message.new.line c.send.new.line c.send.ensures.left c.send.ensures.given c.in_ok-message.ensures.next.1) c.in_ok-message.message c.in_ok-message.ensures.next.3 c.in-Responds.next _ (rw c.in-Responds.is at c.in_ok-response.ensures.handled) _ c.in_ok-message.ensures.next.2 c.in_ok-send-in-Responds.ensures.sent

pub returns-in-Responds-clause-sized : goal.returns-in-Responds-clause-sized
returns-in-Responds-clause-sized g c = handled_sized c.args.spid (g.P.Port.past c.args.port.now) _ _ c.args.session.now _ c.in-Responds.response c.in-Responds.next _ (rw c.in-Responds.is at c.in_ok-response.ensures.handled)

pub returns-clause-ended : goal.returns-clause-ended
returns-clause-ended g c = ended_alone c.args.config.now c.args.spid c.args.reader.now c.args.state.now (Takes g.L.Source.left g.L.Source.given c.args.line.now c.next_message.new.line) (g.L.Source.left c.next_message.new.line) c.next_message.ensures.unwritten c.in_ok-message.ensures.next.0 c.in_ok-message.ensures.next.1 c.in_ok-message.message c.in_ok-message.ensures.next.3 (rw c.in-Ends.is at c.in_ok-response.ensures.handled)

-- a message is no longer than messages may be
pub handle-requires-clause-short : goal.handle-requires-clause-short
handle-requires-clause-short g c = omega (arith, c.in_ok-message.ensures.next.3.limit)
