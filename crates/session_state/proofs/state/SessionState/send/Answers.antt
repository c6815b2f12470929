use Rattle.session_state.proofs.Fitting.{fits_as, fits_if}
use Rattle.session_state.proofs.state.SessionState.send.Goals as goal

pub invariant_of-self-2 : goal.invariant_of-self-2
invariant_of-self-2 c = (fits_if _ _ _ _ c.append.ensures.items c.self.invariant.0 (fits_as _ _ c.into_vec-tokens.ensures.tokens c.into_vec-tokens.ensures.fit), c.self.invariant.1, c.self.invariant.2, c.self.invariant.3, c.self.invariant.4)
