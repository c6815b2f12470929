use Rattle.session_state.proofs.Fitting.{fits_as, fit_none}
use Rattle.session_state.proofs.sendable.TokenList.none.Goals as goal

pub invariant_of-result : goal.invariant_of-result
invariant_of-result c = fits_as _ _ c.new.ensures.items fit_none
