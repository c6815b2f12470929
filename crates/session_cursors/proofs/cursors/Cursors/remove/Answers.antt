use Rattle.std.proofs.Common.{◌≡◌, Ok, All, sym, ◌∙◌, ap, subst}
use Rattle.std.specs.Prelude.{remove}
use Rattle.std.proofs.lemmas.List.Elements.{recursion_from_All, All-from_recursion}
use Rattle.session_cursors.specs.Cursors.{HasItsKinds, given_in, removed}
use Rattle.session_cursors.proofs.Named.{first_in, is_found, is_gone, is_absent, stays, all_left}
use Rattle.session_cursors.proofs.cursors.Cursors.remove.Goals as goal

pub invariant_of-self : goal.invariant_of-self
invariant_of-self g c =
    let name = c.args.name.now in
    let now = c.args.self.now in
    let first = first_in name c.self.inside.cursors.items now c.in-Some.place c.remove.result c.place_of.result c.self.view_is c.place_of.ensures c.in-Some.is c.remove.ensures.value in
    let is : c.remove.new.self.items ≡ removed name now =
    c.remove.ensures.items ∙ ap (λ list. remove list c.in-Some.place) c.self.view_is ∙ is_gone name now c.in-Some.place c.remove.result first in
    subst (All HasItsKinds) (sym is)
    (All-from_recursion HasItsKinds (removed name now) (all_left name HasItsKinds now (recursion_from_All HasItsKinds now (subst (All HasItsKinds) c.self.view_is c.self.invariant))))

pub returns-in-Some-clause-answer : goal.returns-in-Some-clause-answer
returns-in-Some-clause-answer g c =
    let name = c.args.name.now in
    let first = first_in name c.self.inside.cursors.items c.args.self.now c.in-Some.place c.remove.result c.place_of.result c.self.view_is c.place_of.ensures c.in-Some.is c.remove.ensures.value in
    ap (given_in (λ cursor. Ok tt)) (sym (is_found name c.args.self.now c.in-Some.place c.remove.result first))

pub returns-in-Some-clause-cursors : goal.returns-in-Some-clause-cursors
returns-in-Some-clause-cursors g c =
    let name = c.args.name.now in
    let first = first_in name c.self.inside.cursors.items c.args.self.now c.in-Some.place c.remove.result c.place_of.result c.self.view_is c.place_of.ensures c.in-Some.is c.remove.ensures.value in
    c.remove.ensures.items ∙ ap (λ list. remove list c.in-Some.place) c.self.view_is ∙ is_gone name c.args.self.now c.in-Some.place c.remove.result first

pub returns-in-None-clause-answer : goal.returns-in-None-clause-answer
returns-in-None-clause-answer g c = ap (given_in (λ cursor. Ok tt)) (sym (is_absent c.args.name.now c.args.self.now (sym c.place_of.ensures ∙ c.in-None.is)))

pub returns-in-None-clause-cursors : goal.returns-in-None-clause-cursors
returns-in-None-clause-cursors g c = sym (stays c.args.name.now c.args.self.now (is_absent c.args.name.now c.args.self.now (sym c.place_of.ensures ∙ c.in-None.is)))
