use Rattle.std.proofs.Common.{◌≡◌, ◌+◌, ◌-◌, ◌≤◌, length, drop}
use Rattle.tsql_lexer.specs.Reading.{read_on}
use Rattle.tsql_lexer.proofs.Passing.{in_front}
use Rattle.tsql_lexer.proofs.lexing.lexing_of.Given as goal

-- the lexemes so far, before those of the rest, are those of the whole
abbrev pub invariant-loop-at : goal.invariant-loop-at
invariant-loop-at l = record {
  within : l.at ≤ length l.units;
  low : l.line ≤ l.at + 1;
  whole : in_front l.lexemes.items (read_on (drop l.at l.units) 0 l.at l.line) ≡ read_on l.units 0 0 1;
}

abbrev pub decreases-loop-at : goal.decreases-loop-at
decreases-loop-at l = length l.units - l.at
