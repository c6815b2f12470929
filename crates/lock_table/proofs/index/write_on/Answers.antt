use Rattle.std.proofs.Common.{◌==◌, ◌&&◌, refl, sym, ap, ◌∙◌, subst, Some, IsSome}
use Rattle.step_model.specs.Locks.{same_place}
use Rattle.lock_table.specs.BySession.{changed_if}
use Rattle.lock_table.specs.Places.{Tables, pair_in, pairs_in, ChangesOn}
use Rattle.lock_table.proofs.Finds.{put_on, stay_on}
use Rattle.lock_table.proofs.index.write_on.Goals as goal

pub returns-in-Some-clause-written : goal.returns-in-Some-clause-written
returns-in-Some-clause-written c =
    let found = c.in-Some.ensures.value in
    put_on c.args.tables.now (c.get_mut.follows.lender c.set.new.self) c.args.on.now c.args.session (λ old. c.args.pair) (Some c.set.new.self)
    ((c.get_mut.follows.holds c.set.new.self).3 (subst IsSome found refl)).0
    (λ place who. c.set.ensures place who ∙ ap (λ o. changed_if (same_place c.args.on.now.place place && who == c.args.session) (λ old. c.args.pair) (pair_in who (pairs_in o place))) found)

pub returns-in-Some-clause-empty : goal.returns-in-Some-clause-empty
returns-in-Some-clause-empty c empty place who =
    let found = c.in-Some.ensures.value in
    ap (λ o. pair_in who (pairs_in o place)) ((c.get_mut.follows.holds c.set.new.self).3 (subst IsSome found refl)).1 ∙ c.is_empty.ensures empty place who

pub returns-in-None-clause-written : goal.returns-in-None-clause-written
returns-in-None-clause-written c =
    subst (λ (m : Tables). ChangesOn c.args.on.now c.args.session (λ old. c.args.pair) c.args.tables.now m) (sym c.get_mut.follows.holds-at-none)
    (stay_on c.args.tables.now c.args.on.now c.args.session c.args.pair (sym c.in-None.ensures.value) c.requires.may)
