use Rattle.std.proofs.Common.{◌≡◌, ◌∷◌, rules}
use Rattle.batch_meaning.specs.Raised.{error_token}
use Rattle.session_state.proofs.Fitting.{fits_as, in_front_fits}
use Rattle.session_state.proofs.tokens.error_in_front.Goals as goal

pub new-requires : goal.new-requires
new-requires c =
    let is : c.append.new.self.items ≡ error_token c.args.raised.now ∷ c.args.behind = search rules in
    fits_as _ _ is (in_front_fits c.args.raised.now c.args.behind c.in_ok-notice_of.ensures.short c.into_vec-behind.ensures.fit)
