use Rattle.std.proofs.Common.{◌≡◌, ◌+◌, ◌++◌, length, vec_len, vec_capacity}
use Rattle.tds_tokens.specs.Spelling.{row_bytes}
use Rattle.tds_tokens.specs.Fit.{FitsColumns}
use Rattle.tds_tokens.proofs.values.put_values.Given as goal

-- what is written, and the values that are left, is all of them behind what was there
abbrev pub invariant-loop-column : goal.invariant-loop-column
invariant-loop-column l = record {
  can_next : (goal.iterator-loop-column).can_next l.column-iterator;
  is_finite : (goal.iterator-loop-column).is_finite l.column-iterator;
  fits : FitsColumns l.column-iterator.a.rest.now l.column-iterator.b.rest.now;
  items : l.out.items ++ row_bytes l.column-iterator.a.rest.now l.column-iterator.b.rest.now ≡ l.initial.out.items ++ row_bytes l.columns l.values;
  len : vec_len l.out + length (row_bytes l.column-iterator.a.rest.now l.column-iterator.b.rest.now) ≡ vec_len l.initial.out + length (row_bytes l.columns l.values);
  capacity : vec_capacity l.out ≡ vec_capacity l.initial.out;
}
