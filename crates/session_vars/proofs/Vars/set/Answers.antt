use Rattle.std.proofs.Common.{◌≡◌, ◌<◌, Some, sym, ◌∙◌, length, set, arith, length-set}
use Rattle.std.specs.Prelude.{slice_get}
use Rattle.std.proofs.lemmas.List.Elements.{All-set}
use Rattle.session_vars.specs.Variables.{HasItsType}
use Rattle.session_vars.proofs.Named.{names_stay, value_set}
use Rattle.session_vars.proofs.Places.{found_at}
use Rattle.session_vars.proofs.Vars.set.Goals as goal

pub invariant_of-self : goal.invariant_of-self
invariant_of-self c =
    let items = c.self.inside.variables.items in
    let r = c.index_mut-variable.result.now in
    let size : length (set items c.from.result (record { name = r.name; kind = r.kind; value = c.args.value })) ≡ length items = length-set items c.from.result _ in
    let within : c.from.result < length items = rw (c.from.ensures, c.self.view_is) c.requires.within in
    let found : slice_get c.args.self.now c.args.place ≡ Some r =
    sym (λ j. slice_get (c.self.view_is j) (c.from.ensures j)) ∙ found_at items c.from.result r within c.index_mut-variable.ensures.value in (
      c.self.invariant.0 ∙ sym (names_stay items c.from.result r c.args.value c.index_mut-variable.ensures.value),
      omega (arith, size, c.self.invariant.1),
      All-set HasItsType items c.from.result _ (c.requires.fits r found) c.self.invariant.2,
    )

pub returns : goal.returns
returns c = λ variable found.
    value_set c.self.inside.variables.items c.args.self.now c.from.result c.args.place c.index_mut-variable.result.now variable c.args.value
    c.self.view_is c.from.ensures c.index_mut-variable.ensures.value found
