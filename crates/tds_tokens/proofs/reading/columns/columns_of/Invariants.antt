use Rattle.std.proofs.Common.{◌≡◌, ◌-◌}
use Rattle.tds_tokens.specs.Reading.{times, column_at}
use Rattle.tds_tokens.proofs.Loops.{with_front}
use Rattle.tds_tokens.proofs.reading.columns.columns_of.Given as goal

-- the columns so far, and those that are left, are all
abbrev pub invariant-loop : goal.invariant-loop
invariant-loop l = with_front l.columns.items (times (l.count - l.counter) column_at l.rest) ≡ times l.count column_at l.bytes
