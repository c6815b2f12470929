use Rattle.std.proofs.Common.{ap}
use Rattle.session_server.specs.Talk.{handle}
use Rattle.session_server.specs.declared.message.ServerState.{ServerState}
use Rattle.session_server.proofs.Handled.{answered_as, handled_as}
use Rattle.session_server.proofs.message.handle.Goals as goal

pub returns-in-Initial-clause-handled : goal.returns-in-Initial-clause-handled
returns-in-Initial-clause-handled g c = answered_as c.args.spid (g.P.Port.past c.args.port.now) _ _ c.args.session.now c.handle_first.result _ (ap (λ (s : ServerState). handle c.args.config.now s c.args.message.now) c.in-Initial.is) c.handle_first.ensures

pub returns-in-LoginReady-clause-handled : goal.returns-in-LoginReady-clause-handled
returns-in-LoginReady-clause-handled g c = answered_as c.args.spid (g.P.Port.past c.args.port.now) _ _ c.args.session.now c.handle_second.result _ (ap (λ (s : ServerState). handle c.args.config.now s c.args.message.now) c.in-LoginReady.is) c.handle_second.ensures

pub returns-in-LoggedIn-clause-handled : goal.returns-in-LoggedIn-clause-handled
returns-in-LoggedIn-clause-handled g c = handled_as c.args.spid (g.P.Port.past c.args.port.now) _ _ _ c.args.session.now _ c.handle_logged.result _ (ap (λ (s : ServerState). handle c.args.config.now s c.args.message.now) c.in-LoggedIn.is) c.handle_logged.ensures.handled
