use Rattle.session_server.proofs.Handled.{unasked_as, at_ready_login}
use Rattle.session_server.proofs.message.handle_second.Goals as goal

pub returns-in-16 : goal.returns-in-16
returns-in-16 c = unasked_as c.args.spid _ _ c.handle_login.result _ (at_ready_login c.args.config.now c.args.message.now c.as_slice-payload.result.now c.as_slice-payload.ensures c.in-16.is) c.handle_login.ensures.answered
