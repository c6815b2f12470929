use Rattle.std.proofs.Common.{◌≡◌, ◌-◌, ◌≤◌, length, drop}
use Rattle.tsql_lexer.specs.Quotes.{enclosed}
use Rattle.tsql_lexer.proofs.QuoteSteps.{prepended}
use Rattle.tsql_lexer.proofs.quotes.enclosed.Given as goal

-- what is read so far, before what is read of the rest, is what is read of the whole
abbrev pub invariant-loop-at : goal.invariant-loop-at
invariant-loop-at l = record {
  within : l.at ≤ length l.text;
  whole : prepended l.value.items l.at (enclosed l.close (drop l.at l.text)) ≡ enclosed l.close l.text;
}

abbrev pub decreases-loop-at : goal.decreases-loop-at
decreases-loop-at l = length l.text - l.at
