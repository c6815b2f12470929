use Rattle.std.proofs.Common.{◌≡◌, set, sym, ◌∙◌, ap}
use Rattle.session_cursors.specs.Cursors.{with_cursor, shut, given_in, given_by}
use Rattle.session_cursors.proofs.Named.{first_in, is_found, is_changed_in, is_absent, stays_so}
use Rattle.session_cursors.proofs.Keeping.{all_so, keeps_shut}
use Rattle.session_cursors.proofs.cursors.Cursors.close.Goals as goal

pub invariant_of-self : goal.invariant_of-self
invariant_of-self g c =
    let name = c.args.name.now in
    let first = first_in name c.self.inside.cursors.items c.args.self.now c.in-Some.place c.index_mut.result.now c.place_of.result c.self.view_is c.place_of.ensures c.in-Some.is c.index_mut.ensures.value in
    let is : set c.self.inside.cursors.items c.in-Some.place c.close.new.self ≡ with_cursor shut name c.args.self.now =
    is_changed_in name shut c.self.inside.cursors.items c.args.self.now c.in-Some.place c.index_mut.result.now c.close.new.self first c.self.view_is c.close.ensures.cursor in
    all_so shut name c.self.inside.cursors.items c.args.self.now (set c.self.inside.cursors.items c.in-Some.place c.close.new.self) keeps_shut c.self.view_is is c.self.invariant

pub returns-in-Some-clause-answer : goal.returns-in-Some-clause-answer
returns-in-Some-clause-answer g c =
    let name = c.args.name.now in
    let first = first_in name c.self.inside.cursors.items c.args.self.now c.in-Some.place c.index_mut.result.now c.place_of.result c.self.view_is c.place_of.ensures c.in-Some.is c.index_mut.ensures.value in
    c.close.ensures.answer ∙ ap (given_in (λ cursor. given_by (λ left. tt) cursor.answer)) (sym (is_found name c.args.self.now c.in-Some.place c.index_mut.result.now first))

pub returns-in-Some-clause-cursors : goal.returns-in-Some-clause-cursors
returns-in-Some-clause-cursors g c =
    let name = c.args.name.now in
    let first = first_in name c.self.inside.cursors.items c.args.self.now c.in-Some.place c.index_mut.result.now c.place_of.result c.self.view_is c.place_of.ensures c.in-Some.is c.index_mut.ensures.value in
    is_changed_in name shut c.self.inside.cursors.items c.args.self.now c.in-Some.place c.index_mut.result.now c.close.new.self first c.self.view_is c.close.ensures.cursor

pub returns-in-None-clause-answer : goal.returns-in-None-clause-answer
returns-in-None-clause-answer g c = ap (given_in (λ cursor. given_by (λ left. tt) cursor.answer)) (sym (is_absent c.args.name.now c.args.self.now (sym c.place_of.ensures ∙ c.in-None.is)))

pub returns-in-None-clause-cursors : goal.returns-in-None-clause-cursors
returns-in-None-clause-cursors g c = sym (stays_so c.args.name.now shut c.args.self.now (is_absent c.args.name.now c.args.self.now (sym c.place_of.ensures ∙ c.in-None.is)))
