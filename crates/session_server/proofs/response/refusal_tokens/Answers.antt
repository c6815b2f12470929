use Rattle.session_server.proofs.Refusals.{refusal_fits}
use Rattle.session_server.proofs.response.refusal_tokens.Goals as goal

pub returns-clause-fit : goal.returns-clause-fit
returns-clause-fit c = refusal_fits _ c.tokens_of_refusal.result c.tokens_of_refusal.ensures
