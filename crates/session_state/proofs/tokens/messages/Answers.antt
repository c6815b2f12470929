use Rattle.std.proofs.Common.{◌≡◌, [], ◌∷◌, rules}
use Rattle.batch_meaning.specs.Raised.{info_token}
use Rattle.session_state.proofs.Fitting.{fits_as, info_fits}
use Rattle.session_state.proofs.tokens.messages.Goals as goal

pub new-requires : goal.new-requires
new-requires c =
    let is : c.in_ok-vec.field-0.items ≡ info_token c.args.raised.now ∷ [] = search rules in
    fits_as _ _ is (info_fits c.args.raised.now c.in_ok-notice_of.ensures.short)
