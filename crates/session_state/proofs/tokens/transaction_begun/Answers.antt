use Rattle.std.proofs.Common.{◌≡◌, [], ◌∷◌, rules}
use Rattle.batch_meaning.specs.Tokens.{transaction_begun}
use Rattle.session_state.proofs.Fitting.{fits_as, begun_fits}
use Rattle.session_state.proofs.tokens.transaction_begun.Goals as goal

pub new-requires-2 : goal.new-requires-2
new-requires-2 c =
    let is : c.in_ok-vec.field-0.items ≡ transaction_begun c.args.serial ∷ [] = search rules in
    fits_as _ _ is (begun_fits c.args.serial)
