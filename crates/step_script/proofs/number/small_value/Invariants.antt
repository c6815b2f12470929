use Rattle.std.proofs.Common.{◌≡◌, ◌≤◌, drop}
use Rattle.convert_rules.specs.Reading.{value_behind, digits_value}
use Rattle.step_script.proofs.number.small_value.Given as goal

-- the digits so far stand in front of those that are left
abbrev pub invariant-loop-byte : goal.invariant-loop-byte
invariant-loop-byte l = value_behind l.value (drop l.byte-index l.digits) ≡ digits_value l.digits
