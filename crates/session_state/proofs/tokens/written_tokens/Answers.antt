use Rattle.std.proofs.Common.{◌≡◌, [], ◌∷◌, rules}
use Rattle.batch_meaning.specs.Tokens.{statement_done}
use Rattle.session_state.proofs.Fitting.{fits_as, written_fit}
use Rattle.session_state.proofs.tokens.written_tokens.Goals as goal

pub new-requires : goal.new-requires
new-requires c =
    let is : c.in_ok-vec.field-0.items ≡ statement_done c.args.kind c.args.no_count c.args.command c.args.rows ∷ [] = search rules in
    fits_as _ _ is (written_fit c.args.kind c.args.no_count c.args.command c.args.rows)
