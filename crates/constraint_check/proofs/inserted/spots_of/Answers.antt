use Rattle.std.proofs.Common.{refl, sym, ap, subst, ◌+◌, take}
use Rattle.std.specs.BTreeSet.{BTreeSet}
use Rattle.step_model.specs.Own.{is_insert}
use Rattle.constraint_check.specs.declared.inserted.Spot.{Spot}
use Rattle.constraint_check.specs.Inserted.{HasSpots}
use Rattle.constraint_check.proofs.Spots.{no_insert, spots_more, spots_same}
use Rattle.constraint_check.proofs.inserted.spots_of.Goals as goal
use Rattle.constraint_check.proofs.inserted.spots_of.Goals.{in-Insert+in_ok-insert, in_default}

pub loop-change-preserved : goal.loop-change-preserved
loop-change-preserved c =
    let changes = c.args.changes.now in
    let done = c.loop-change.change-index in
    let change = c.change-item.result in
    elim c.match-change.branch [
      | in-Insert+in_ok-insert w ↦
          let spot : Spot = record { table = record { ref_ptr = (0, 0); now = change.table }; key = record { ref_ptr = (0, 0); now = change.key } } in
          subst (λ (spots : BTreeSet Spot). HasSpots spots (take (done + 1) changes)) (sym w.spots-is)
          (spots_more changes done change c.loop-change-test.true c.change-item.is c.loop-change.spots w.insert.new.self spot c.loop-change.invariant (ap is_insert w.in-Insert.is) refl refl (w.in_ok-insert.ensures.updates.0))
      | in_default w ↦
          subst (λ (spots : BTreeSet Spot). HasSpots spots (take (done + 1) changes)) (sym w.spots-is)
          (spots_same changes done change c.loop-change-test.true c.change-item.is c.loop-change.spots c.loop-change.invariant (no_insert change.deed w.in_default.not-Insert))
    ]
