use Rattle.std.proofs.Common.{rules, tests}
use Rattle.table_rows.proofs.Keys.{values_ended}
use Rattle.table_rows.proofs.rows.has_values.Goals as goal

pub returns-in_default : goal.returns-in_default
returns-in_default c = values_ended c.args.places.now c.loop-place.place-index c.args.row.now c.loop-place.rest.now c.args.wanted.now (search (rules, tests)) c.in_default.len_below c.loop-place.invariant
