use Rattle.std.proofs.Common.{◌≡◌, rules}
use Rattle.batch_meaning.specs.Tokens.{procedure_done}
use Rattle.session_state.proofs.Fitting.{fits_as, procedure_fits}
use Rattle.session_state.proofs.tokens.procedure_done.Goals as goal

pub new-requires : goal.new-requires
new-requires c =
    let is : c.in_ok-vec.field-0.items ≡ procedure_done c.args.status = search rules in
    fits_as _ _ is (procedure_fits c.args.status)
