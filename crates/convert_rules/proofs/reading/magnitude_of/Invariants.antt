use Rattle.std.proofs.Common.{◌≡◌, ◌≤◌, drop}
use Rattle.convert_rules.specs.Reading.{value_behind, digits_value}
use Rattle.convert_rules.specs.Partial.{magnitude_limit}
use Rattle.convert_rules.proofs.reading.magnitude_of.Given as goal

-- the digits so far stand in front of those that are left
abbrev pub invariant-loop-digit : goal.invariant-loop-digit
invariant-loop-digit l = record {
  below : l.value ≤ magnitude_limit;
  whole : value_behind l.value (drop l.digit-index l.digits) ≡ digits_value l.digits;
}
