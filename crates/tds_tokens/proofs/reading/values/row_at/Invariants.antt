use Rattle.std.proofs.Common.{◌≡◌, drop}
use Rattle.tds_tokens.specs.Reading.{values_at}
use Rattle.tds_tokens.proofs.Loops.{with_front}
use Rattle.tds_tokens.proofs.reading.values.row_at.Given as goal

-- the values so far, and those that are left, are all
abbrev pub invariant-loop-column : goal.invariant-loop-column
invariant-loop-column l = with_front l.values.items (values_at (drop l.column-index l.columns) l.rest) ≡ values_at l.columns l.bytes
