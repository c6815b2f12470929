use Rattle.std.proofs.Common.{◌≡◌, [], ◌∷◌, rules}
use Rattle.batch_meaning.specs.Tokens.{transaction_rolled_back}
use Rattle.session_state.proofs.Fitting.{fits_as, rolled_back_fits}
use Rattle.session_state.proofs.tokens.transaction_rolled_back.Goals as goal

pub new-requires-2 : goal.new-requires-2
new-requires-2 c =
    let is : c.in_ok-vec.field-0.items ≡ transaction_rolled_back c.args.serial ∷ [] = search rules in
    fits_as _ _ is (rolled_back_fits c.args.serial)
