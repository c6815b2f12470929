use Rattle.std.proofs.Common.{◌≡◌, ◌++◌, take}
use Rattle.query_eval.proofs.TablesRead.{inner_tables}
use Rattle.query_eval.proofs.references.+references.Given as goal

-- the tables of the inner queries so far
abbrev pub invariant-loop-inner : goal.invariant-loop-inner
invariant-loop-inner l = l.tables.items ≡ l.fn.tables.items ++ inner_tables (take l.inner-index l.inner-items)
