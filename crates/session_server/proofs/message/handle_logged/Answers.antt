use Rattle.session_server.proofs.Handled.{answered_as, at_attention}
use Rattle.session_server.proofs.message.handle_logged.Goals as goal

pub returns-in-6-clause-handled : goal.returns-in-6-clause-handled
returns-in-6-clause-handled g c = answered_as c.args.spid (g.P.Port.past c.args.port.now) _ _ c.args.session.now c.handle_attention.result _ (at_attention c.args.connected.now c.args.message.now c.in-6.is) c.handle_attention.ensures.answered
