use Rattle.std.proofs.Common.{Some}
use Rattle.tsql_tree.specs.Places.{key_places}
use Rattle.dml_exec.proofs.IndexSteps.{key_bounds, own_keyed}
use Rattle.dml_exec.proofs.planning.all_changes.Goals as goal

pub changes_of-requires : goal.changes_of-requires
changes_of-requires c =
    let bounds = key_bounds (key_places (Some c.args.shape.now)) (own_keyed c.args.shape.now c.requires.keyed) in
    rw c.requires.key record { not_empty = bounds.0; within_limit = bounds.1 }
