use Rattle.std.proofs.Common.{◌==◌, ◌&&◌, refl, ap, ◌∙◌, subst, Some, IsSome}
use Rattle.std.proofs.lemmas.Result.{on_ok_weaker, on_err_weaker}
use Rattle.lock_modes.specs.Join.{join_pairs}
use Rattle.value_types.specs.declared.table_name.TableName.{TableName}
use Rattle.value_types.specs.Order.{table_cmp}
use Rattle.step_model.specs.Locks.{same_place}
use Rattle.lock_table.specs.BySession.{changed_if}
use Rattle.lock_table.specs.Places.{Tables, pair_in, pairs_in}
use Rattle.lock_table.proofs.Finds.{put_on, keep_on, Sets}
use Rattle.lock_table.proofs.index.add_on.Goals as goal

pub returns-in-Some-clause-ok : goal.returns-in-Some-clause-ok
returns-in-Some-clause-ok c =
    let found = c.in-Some.ensures.value in
    on_ok_weaker c.add.result
    (λ changes.
    put_on c.args.tables.now (c.get_mut.follows.lender c.add.new.self) c.args.on.now c.args.session (λ old. join_pairs old c.args.pair) (Some c.add.new.self)
    ((c.get_mut.follows.holds c.add.new.self).3 (subst IsSome found refl)).0
    (λ place who. changes place who ∙ ap (λ o. changed_if (same_place c.args.on.now.place place && who == c.args.session) (λ old. join_pairs old c.args.pair) (pair_in who (pairs_in o place))) found))
    c.add.ensures.ok

pub returns-in-Some-clause-err : goal.returns-in-Some-clause-err
returns-in-Some-clause-err c =
    let found = c.in-Some.ensures.value in
    on_err_weaker c.add.result
    (λ keeps.
    keep_on c.args.tables.now (c.get_mut.follows.lender c.add.new.self) c.args.on.now.table (Some c.add.new.self)
    ((c.get_mut.follows.holds c.add.new.self).3 (subst IsSome found refl)).0
    (λ place who. keeps place who ∙ ap (λ o. pair_in who (pairs_in o place)) found))
    c.add.ensures.err

pub returns-in_ok-insert-in-None-clause-ok : goal.returns-in_ok-insert-in-None-clause-ok
returns-in_ok-insert-in-None-clause-ok c =
    let copied : Sets table_cmp c.get_mut.follows.lender-at-none c.insert.new.self c.args.on.now.table (Some c.add-in-None.new.self) =
    subst (λ (k : TableName). Sets table_cmp c.get_mut.follows.lender-at-none c.insert.new.self k (Some c.add-in-None.new.self)) c.in_ok-copy-in-None.ensures c.in_ok-insert-in-None.ensures.updates.0 in
    let sets : Sets table_cmp c.args.tables.now c.insert.new.self c.args.on.now.table (Some c.add-in-None.new.self) =
    subst (λ (m : Tables). Sets table_cmp m c.insert.new.self c.args.on.now.table (Some c.add-in-None.new.self)) c.get_mut.follows.holds-at-none copied in
    put_on c.args.tables.now c.insert.new.self c.args.on.now c.args.session (λ old. join_pairs old c.args.pair) (Some c.add-in-None.new.self) sets
    (λ place who. c.in_ok-add-in-None.ensures.ok place who
    ∙ ap (changed_if (same_place c.args.on.now.place place && who == c.args.session) (λ old. join_pairs old c.args.pair)) (c.none-places.ensures place who ∙ ap (λ o. pair_in who (pairs_in o place)) c.in-None.ensures.value))
