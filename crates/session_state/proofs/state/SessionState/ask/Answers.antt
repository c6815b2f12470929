use Rattle.session_state.proofs.Readiness.{ready_asked}
use Rattle.session_state.proofs.state.SessionState.ask.Goals as goal

pub returns-clause-ready : goal.returns-clause-ready
returns-clause-ready g c = ready_asked c.requires.ready c.requires.may c.exchange.ensures.asked
