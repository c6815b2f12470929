use Rattle.std.proofs.Common.{◌≡◌, ◌∷◌, rules}
use Rattle.tds_tokens.specs.declared.token.Token.TheVariants.{ReturnStatus}
use Rattle.session_state.proofs.Fitting.{fits_as, returned_fits}
use Rattle.session_state.proofs.tokens.returned_tokens.Goals as goal

pub new-requires : goal.new-requires
new-requires c =
    let is : c.append.new.self.items ≡ ReturnStatus c.args.status ∷ c.args.values.items = search rules in
    fits_as _ _ is (returned_fits c.args.status c.args.values.items c.requires)
