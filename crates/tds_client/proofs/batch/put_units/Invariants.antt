use Rattle.std.proofs.Common.{◌≡◌, ◌++◌, take}
use Rattle.value_types.specs.Units.{le_bytes_of}
use Rattle.tds_client.proofs.batch.put_units.Given as goal

-- the units so far stand behind what was there
abbrev pub invariant-loop-unit : goal.invariant-loop-unit
invariant-loop-unit l = l.out.items ≡ l.initial.out.items ++ le_bytes_of (take l.unit-index l.units)
