use Rattle.std.proofs.Common.{◌≡◌, ◌+◌, ◌<◌, Some, List, Option, Bor, drop, length, true, false, refl, sym, ap, subst, ◌∙◌, arith}
use Rattle.std.specs.Prelude.{IfOk, option_map}
use Rattle.std.proofs.lemmas.List.{drop_all}
use Rattle.tsql_tree.specs.declared.statement.Argument.{Argument}
use Rattle.call_rules.specs.Arguments.{all_there, place_for}
use Rattle.call_rules.specs.Found.{lent, lent_slots}
use Rattle.call_rules.proofs.Slots.{AreSlots, no_slots, next_is, for_one, slot_read, slot_filled, allowed_by, not_allowed, doubled, none_there, lent_put, many_lent, all_gathered}
use Rattle.call_rules.proofs.matching.matched.Goals as goal

pub loop-at-init : goal.loop-at-init
loop-at-init c = no_slots c.args.parameters.now c.args.arguments.now c.in_ok-slots.slots.items c.in_ok-slots.ensures

pub returns-then-not-may_be_for : goal.returns-then-not-may_be_for
returns-then-not-may_be_for c =
    let parameters = c.args.parameters.now in
    let arguments = c.args.arguments.now in
    let argument = c.index-arguments-at.result in
    let slots = lent_slots c.loop-at.slots.items in
    let found : place_for parameters c.loop-at.at argument.name ≡ Some c.in-Some.place = sym (c.place_for.ensures parameters refl c.in_ok-places.ensures) ∙ c.in-Some.is in
    let within = for_one parameters c.loop-at.at c.in-Some.place argument.name c.index-parameters-place.result found in
    let old = next_is parameters arguments slots c.loop-at.at argument c.loop-at-test.true c.index-arguments-at.is c.loop-at.invariant in
    not_allowed parameters arguments slots c.loop-at.at argument (drop (c.loop-at.at + 1) arguments)
    (allowed_by parameters c.loop-at.at c.in-Some.place argument c.index-parameters-place.result false found within c.index-parameters-place.is (sym c.if-not-may_be_for.true ∙ c.may_be_for.ensures))
    old

pub returns-then-is_some : goal.returns-then-is_some
returns-then-is_some c =
    let parameters = c.args.parameters.now in
    let arguments = c.args.arguments.now in
    let argument = c.index-arguments-at.result in
    let slots = lent_slots c.loop-at.slots.items in
    let found : place_for parameters c.loop-at.at argument.name ≡ Some c.in-Some.place = sym (c.place_for.ensures parameters refl c.in_ok-places.ensures) ∙ c.in-Some.is in
    let within = for_one parameters c.loop-at.at c.in-Some.place argument.name c.index-parameters-place.result found in
    let old = next_is parameters arguments slots c.loop-at.at argument c.loop-at-test.true c.index-arguments-at.is c.loop-at.invariant in
    let many : c.in-Some.place < length c.loop-at.slots.items = omega (arith, within, c.loop-at.invariant.many, many_lent c.loop-at.slots.items) in
    doubled parameters arguments slots c.loop-at.at c.in-Some.place argument (drop (c.loop-at.at + 1) arguments) found within
    (slot_read c.loop-at.slots.items c.in-Some.place c.index.result.now true many c.index.ensures (sym c.is_some.ensures ∙ c.if-is_some.true))
    old

pub loop-at-preserved : goal.loop-at-preserved
loop-at-preserved c =
    let parameters = c.args.parameters.now in
    let arguments = c.args.arguments.now in
    let argument = c.index-arguments-at.result in
    let slots = lent_slots c.loop-at.slots.items in
    let found : place_for parameters c.loop-at.at argument.name ≡ Some c.in-Some.place = sym (c.place_for.ensures parameters refl c.in_ok-places.ensures) ∙ c.in-Some.is in
    let within = for_one parameters c.loop-at.at c.in-Some.place argument.name c.index-parameters-place.result found in
    let old = next_is parameters arguments slots c.loop-at.at argument c.loop-at-test.true c.index-arguments-at.is c.loop-at.invariant in
    let many : c.in-Some.place < length c.loop-at.slots.items = omega (arith, within, c.loop-at.invariant.many, many_lent c.loop-at.slots.items) in
    let empty = none_there _ (slot_read c.loop-at.slots.items c.in-Some.place c.index.result.now false many c.index.ensures (sym c.is_some.ensures ∙ c.if-is_some.false)) in
    subst (λ slots. AreSlots parameters arguments slots (c.loop-at.at + 1) (drop (c.loop-at.at + 1) arguments)) (sym (lent_put c.loop-at.slots.items c.in-Some.place _))
    (slot_filled parameters arguments slots c.loop-at.at c.in-Some.place argument (drop (c.loop-at.at + 1) arguments) found (omega (arith, many, many_lent c.loop-at.slots.items)) empty
    (allowed_by parameters c.loop-at.at c.in-Some.place argument c.index-parameters-place.result true found within c.index-parameters-place.is (sym c.if-not-may_be_for.false ∙ c.may_be_for.ensures))
    old)

pub returns : goal.returns
returns c =
    let slots = lent_slots c.loop-at.slots.items in
    let none = drop_all c.loop-at.at c.args.arguments.now c.loop-at-test.false in
    subst (λ (all : Option (List Argument)). IfOk c.all_there.result (λ found. option_map (λ list. lent list.items) found ≡ all))
    (ap (λ (list : List (Option (Bor Argument))). all_there (lent_slots list)) c.deref.ensures.value
    ∙ all_gathered c.args.parameters.now c.args.arguments.now slots c.loop-at.at (drop c.loop-at.at c.args.arguments.now) none c.loop-at.invariant)
    c.all_there.ensures
