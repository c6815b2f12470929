use Rattle.std.proofs.Common.{◌≡◌, ◌+◌, ◌++◌, length, drop, vec_len, vec_capacity}
use Rattle.std.specs.List.{flat_map}
use Rattle.tds_tokens.specs.Spelling.{column_bytes}
use Rattle.tds_tokens.proofs.writing.put_columns.Given as goal

-- what is written, and the columns that are left, is all of them behind what was there
abbrev pub invariant-loop-column : goal.invariant-loop-column
invariant-loop-column l = record {
  items : l.out.items ++ flat_map column_bytes (drop l.column-index l.columns) ≡ l.initial.out.items ++ flat_map column_bytes l.columns;
  len : vec_len l.out + length (flat_map column_bytes (drop l.column-index l.columns)) ≡ vec_len l.initial.out + length (flat_map column_bytes l.columns);
  capacity : vec_capacity l.out ≡ vec_capacity l.initial.out;
}
