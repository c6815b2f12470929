use Rattle.std.proofs.Common.{◌≡◌, nat_lt, refl, rules}
use Rattle.std.specs.Prelude.{codes}
use Rattle.std.proofs.lemmas.Bool.{ltb-true}
use Rattle.std.proofs.lemmas.List.Sums.{AllPass-from_list_all}
use Rattle.batch_meaning.specs.Databases.{context_tokens}
use Rattle.session_state.proofs.Fitting.{context_fits, fits_as}
use Rattle.session_state.proofs.tokens.context_tokens.Goals as goal

pub of_ascii-requires : goal.of_ascii-requires
of_ascii-requires c = λ k d within.
    ltb-true _ 128 (AllPass-from_list_all (λ byte. nat_lt byte 128) (codes "Changed database context to 'main'.") refl k d within)

pub new-requires : goal.new-requires
new-requires c =
    let is : c.in_ok-vec.field-0.items ≡ context_tokens c.args.procedure c.args.line = search rules in
    fits_as _ _ is (context_fits c.args.procedure c.args.line c.in_ok-notice.ensures.short)
