use Rattle.std.proofs.Common.{◌≡◌, ◌+◌, ◌-◌, ◌^◌, ◌<◌, length, min, drop}
use Rattle.std.specs.List.{flat_map}
use Rattle.tds_tokens.specs.Spelling.{column_bytes}
use Rattle.tds_tokens.proofs.sizes.columns_size.Given as goal

-- the size so far, and that of the columns that are left, is that of all
abbrev pub invariant-loop-column : goal.invariant-loop-column
invariant-loop-column l = record {
  total :
      min (l.size + length (flat_map column_bytes (drop l.column-index l.columns))) (2 ^ 64 - 1)
      ≡ min (length (flat_map column_bytes l.columns)) (2 ^ 64 - 1);
  fits : l.size < 2 ^ 64;
}
