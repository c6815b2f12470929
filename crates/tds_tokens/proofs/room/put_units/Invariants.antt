use Rattle.std.proofs.Common.{◌≡◌, ◌+◌, ◌*◌, ◌++◌, take, vec_len, vec_capacity}
use Rattle.value_types.specs.Units.{le_bytes_of}
use Rattle.tds_tokens.proofs.room.put_units.Given as goal

-- the units so far stand behind what was there
abbrev pub invariant-loop-unit : goal.invariant-loop-unit
invariant-loop-unit l = record {
  items : l.out.items ≡ l.initial.out.items ++ le_bytes_of (take l.unit-index l.units);
  len : vec_len l.out ≡ vec_len l.initial.out + 2 * l.unit-index;
  capacity : vec_capacity l.out ≡ vec_capacity l.initial.out;
}
