use Rattle.std.proofs.Common.{◌≡◌, [], ◌∷◌, rules}
use Rattle.batch_meaning.specs.Tokens.{last_done}
use Rattle.session_state.proofs.Fitting.{fits_as, last_done_fit}
use Rattle.session_state.proofs.tokens.last_tokens.Goals as goal

pub new-requires : goal.new-requires
new-requires c =
    let is : c.in_ok-vec.field-0.items ≡ last_done c.args.kind c.args.failed ∷ [] = search rules in
    fits_as _ _ is (last_done_fit c.args.kind c.args.failed)
