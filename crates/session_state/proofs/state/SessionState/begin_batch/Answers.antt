use Rattle.session_state.proofs.Fitting.{fits_as, fit_none}
use Rattle.session_state.proofs.state.SessionState.begin_batch.Goals as goal

pub invariant_of-self : goal.invariant_of-self
invariant_of-self c = (fits_as _ _ c.clear.ensures.items fit_none, c.self.invariant.1, c.self.invariant.2, c.self.invariant.3, c.self.invariant.4)
