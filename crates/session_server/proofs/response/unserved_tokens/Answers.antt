use Rattle.session_server.proofs.Refusals.{unserved_fits}
use Rattle.session_server.proofs.response.unserved_tokens.Goals as goal

pub returns-clause-fit : goal.returns-clause-fit
returns-clause-fit c = unserved_fits c.args.number c.args.at c.args.kind c.tokens_of_unserved.result c.tokens_of_unserved.ensures
