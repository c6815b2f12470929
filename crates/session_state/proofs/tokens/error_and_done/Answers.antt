use Rattle.std.proofs.Common.{◌≡◌, ◌∷◌, rules}
use Rattle.batch_meaning.specs.Raised.{error_token}
use Rattle.batch_meaning.specs.Tokens.{procedure_done}
use Rattle.session_state.proofs.Fitting.{fits_as, error_and_fits}
use Rattle.session_state.proofs.tokens.error_and_done.Goals as goal

pub new-requires : goal.new-requires
new-requires c =
    let is : c.in_ok-vec.field-0.items ≡ error_token c.args.raised.now ∷ procedure_done c.args.status = search rules in
    fits_as _ _ is (error_and_fits c.args.raised.now c.args.status c.in_ok-notice_of.ensures.short)
