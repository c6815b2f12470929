use Rattle.std.proofs.Common.{[], ◌∷◌, subst, sym}
use Rattle.tds_tokens.specs.Fit.{FitTokens}
use Rattle.session_state.proofs.Fitting.{done_fit}
use Rattle.session_server.proofs.response.attention_done.Goals as goal

pub returns-clause-fit : goal.returns-clause-fit
returns-clause-fit c = subst (λ token. FitTokens [] (token ∷ [])) (sym c.done.ensures) (done_fit _ _ _ _ [])
