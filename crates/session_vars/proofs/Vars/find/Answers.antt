use Rattle.std.proofs.Common.{◌≡◌, rules, sym, ◌∙◌}
use Rattle.session_vars.specs.Variables.{place_of}
use Rattle.session_vars.proofs.Named.{place_among}
use Rattle.session_vars.proofs.Vars.find.Goals as goal

pub returns-in_err-place : goal.returns-in_err-place
returns-in_err-place c =
    let among = place_among c.as_slice.result.now c.self.inside.names.keys c.self.inside.variables.items c.self.invariant.0 in
    let now : place_of c.as_slice.result.now c.self.inside.variables.items ≡ place_of c.args.name.now c.args.self.now = λ j. place_of (c.as_slice.ensures j) (c.self.view_is j) in
    grind (rules, among, now, c.get_index_of.ensures.index)

pub returns : goal.returns
returns c =
    let among = place_among c.as_slice.result.now c.self.inside.names.keys c.self.inside.variables.items c.self.invariant.0 in
    sym c.in_ok-place.was ∙ c.get_index_of.ensures.index ∙ among ∙ (λ j. place_of (c.as_slice.ensures j) (c.self.view_is j))
