use Rattle.session_state.proofs.Fitting.{told_fits, fits_as}
use Rattle.session_state.proofs.tokens.told_tokens.Goals as goal

pub new-requires : goal.new-requires
new-requires c = fits_as _ _ c.in_ok-tokens_of_error.ensures.told (told_fits c.args.kind c.args.action c.args.command c.args.raised.now c.in_ok-tokens_of_error.ensures.short)
