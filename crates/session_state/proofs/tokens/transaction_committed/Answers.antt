use Rattle.std.proofs.Common.{◌≡◌, [], ◌∷◌, rules}
use Rattle.batch_meaning.specs.Tokens.{transaction_committed}
use Rattle.session_state.proofs.Fitting.{fits_as, committed_fits}
use Rattle.session_state.proofs.tokens.transaction_committed.Goals as goal

pub new-requires-2 : goal.new-requires-2
new-requires-2 c =
    let is : c.in_ok-vec.field-0.items ≡ transaction_committed c.args.serial ∷ [] = search rules in
    fits_as _ _ is (committed_fits c.args.serial)
