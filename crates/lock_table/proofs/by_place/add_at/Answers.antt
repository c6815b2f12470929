use Rattle.std.proofs.Common.{◌==◌, refl, ap, subst, ◌∙◌, Some, List, IsSome}
use Rattle.lock_modes.specs.Join.{join_pairs}
use Rattle.value_types.specs.declared.value.Value.{Value}
use Rattle.value_types.specs.Order.{key_cmp}
use Rattle.lock_table.specs.BySession.{changed_if}
use Rattle.lock_table.specs.Places.{Keys, pair_in}
use Rattle.lock_table.proofs.Finds.{put_at, Sets}
use Rattle.lock_table.proofs.by_place.add_at.Goals as goal

pub returns-in-Some-clause-ok : goal.returns-in-Some-clause-ok
returns-in-Some-clause-ok c =
    let found = c.in-Some.ensures.value in
    put_at c.args.keys.now (c.get_mut.follows.lender c.add.new.self) c.args.key.now c.args.session (λ old. join_pairs old c.args.pair) (Some c.add.new.self)
    ((c.get_mut.follows.holds c.add.new.self).3 (subst IsSome found refl)).0
    (λ who. c.add.ensures who ∙ ap (λ o. changed_if (who == c.args.session) (λ old. join_pairs old c.args.pair) (pair_in who o)) found)

pub returns-in_ok-insert-in-None-clause-ok : goal.returns-in_ok-insert-in-None-clause-ok
returns-in_ok-insert-in-None-clause-ok c =
    let copied : Sets key_cmp c.get_mut.follows.lender-at-none c.insert.new.self c.args.key.now (Some c.add-in-None.new.self) =
    subst (λ (k : List Value). Sets key_cmp c.get_mut.follows.lender-at-none c.insert.new.self k (Some c.add-in-None.new.self)) c.in_ok-copy-in-None.ensures c.in_ok-insert-in-None.ensures.updates.0 in
    let sets : Sets key_cmp c.args.keys.now c.insert.new.self c.args.key.now (Some c.add-in-None.new.self) =
    subst (λ (m : Keys). Sets key_cmp m c.insert.new.self c.args.key.now (Some c.add-in-None.new.self)) c.get_mut.follows.holds-at-none copied in
    put_at c.args.keys.now c.insert.new.self c.args.key.now c.args.session (λ old. join_pairs old c.args.pair) (Some c.add-in-None.new.self) sets
    (λ who. c.add-in-None.ensures who ∙ ap (changed_if (who == c.args.session) (λ old. join_pairs old c.args.pair)) (c.none-pairs.ensures who ∙ ap (pair_in who) c.in-None.ensures.value))
