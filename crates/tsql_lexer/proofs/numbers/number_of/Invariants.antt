use Rattle.std.proofs.Common.{◌≡◌, ◌≤◌, drop}
use Rattle.tsql_lexer.specs.Numbers.{value_behind, number_value, number_limit}
use Rattle.tsql_lexer.proofs.numbers.number_of.Given as goal

-- the digits so far stand in front of those that are left
abbrev pub invariant-loop-digit : goal.invariant-loop-digit
invariant-loop-digit l = record {
  below : l.value ≤ number_limit;
  whole : value_behind l.value (drop l.digit-index l.digits) ≡ number_value l.digits;
}
