-- Own: the keys at which changes insert, as a set. Private contracts alone cite this.
use Rattle.std.specs.Prelude.{◌≡◌, ◌&&◌, List}
use Rattle.std.specs.List.{list_any}
use Rattle.std.specs.declared.cmp.Ordering.{Ordering}
use Rattle.std.specs.Ordering.{on, then_cmp}
use Rattle.std.specs.BTreeSet.{BTreeSet, contains}
use Rattle.value_types.specs.Order.{key_cmp, table_cmp}
use Rattle.step_model.specs.declared.change.Planned.{Planned}
use Rattle.step_model.specs.Database.{is_at}
use Rattle.step_model.specs.Own.{change_of, is_insert}
use Rattle.constraint_check.specs.declared.inserted.Spot.{Spot}

-- by the table, then by the key
abbrev pub spot_cmp : Spot → Spot → Ordering
spot_cmp = then_cmp (on (λ spot. spot.table.now) table_cmp) (on (λ spot. spot.key.now) key_cmp)

-- the set has the keys at which a change inserts
abbrev pub HasSpots : BTreeSet Spot → List Planned → Type 0
HasSpots spots changes = (spot : Spot) → contains spot_cmp spots spot ≡ list_any (λ other. is_insert other.deed && is_at (change_of other) spot.table.now spot.key.now) changes
