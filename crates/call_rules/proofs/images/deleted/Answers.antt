use Rattle.std.proofs.Common.{◌∷◌, [], map}
use Rattle.std.specs.Prelude.{filter}
use Rattle.call_rules.specs.Triggers.{is_taken, keyed}
use Rattle.call_rules.proofs.Lists.{gathered_more, passed_first}
use Rattle.call_rules.proofs.images.deleted.Goals as goal

pub loop-row-preserved : goal.loop-row-preserved
loop-row-preserved c =
    let changes = c.args.changes.now in
    let key = c.args.key.now in
    let row = c.row-item.result in
    gathered_more (λ i rows. filter (is_taken changes) (map (keyed key) rows)) c.loop-row.taken.items c.add_taken.new.taken.items (filter (is_taken changes) (keyed key row ∷ [])) (filter (is_taken changes) (map (keyed key) c.args.rows.now))
    c.args.rows.now c.loop-row.row-index row c.loop-row-test.true c.row-item.is (λ rest. passed_first (is_taken changes) (keyed key row) (map (keyed key) rest)) (c.in_ok-add_taken.ensures changes c.in_ok-keys.ensures) c.loop-row.invariant
