use Rattle.std.proofs.Common.{◌==◌, refl, sym, ap, ◌∙◌, subst, Some, IsSome}
use Rattle.lock_table.specs.BySession.{changed_if}
use Rattle.lock_table.specs.Places.{Keys, pair_in, ChangesAtKey}
use Rattle.lock_table.proofs.Finds.{put_at, stay_at}
use Rattle.lock_table.proofs.by_place.write_at.Goals as goal

pub returns-in-Some-clause-written : goal.returns-in-Some-clause-written
returns-in-Some-clause-written c =
    let found = c.in-Some.ensures.value in
    put_at c.args.keys.now (c.get_mut.follows.lender c.set.new.self) c.args.key.now c.args.session (λ old. c.args.pair) (Some c.set.new.self)
    ((c.get_mut.follows.holds c.set.new.self).3 (subst IsSome found refl)).0
    (λ who. c.set.ensures who ∙ ap (λ o. changed_if (who == c.args.session) (λ old. c.args.pair) (pair_in who o)) found)

pub returns-in-Some-clause-empty : goal.returns-in-Some-clause-empty
returns-in-Some-clause-empty c empty who =
    let found = c.in-Some.ensures.value in
    ap (pair_in who) ((c.get_mut.follows.holds c.set.new.self).3 (subst IsSome found refl)).1 ∙ c.is_empty.ensures empty who

pub returns-in-None-clause-written : goal.returns-in-None-clause-written
returns-in-None-clause-written c =
    subst (λ (m : Keys). ChangesAtKey c.args.key.now c.args.session (λ old. c.args.pair) c.args.keys.now m) (sym c.get_mut.follows.holds-at-none)
    (stay_at c.args.keys.now c.args.key.now c.args.session c.args.pair (sym c.in-None.ensures.value) c.requires.may)
