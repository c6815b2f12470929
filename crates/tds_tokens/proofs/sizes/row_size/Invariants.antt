use Rattle.std.proofs.Common.{◌≡◌, ◌+◌, ◌-◌, ◌^◌, ◌<◌, length, min}
use Rattle.tds_tokens.specs.Spelling.{row_bytes}
use Rattle.tds_tokens.proofs.sizes.row_size.Given as goal

-- the size so far, and that of the values that are left, is that of all
abbrev pub invariant-loop-column : goal.invariant-loop-column
invariant-loop-column l = record {
  total :
      min (l.size + length (row_bytes l.column-iterator.a.rest.now l.column-iterator.b.rest.now)) (2 ^ 64 - 1)
      ≡ min (length (row_bytes l.columns l.values)) (2 ^ 64 - 1);
  fits : l.size < 2 ^ 64;
}
