use Rattle.std.proofs.Common.{◌≡◌, drop}
use Rattle.std.specs.Cmp.Lexicographic.{pointwise}
use Rattle.table_rows.specs.Rows.{is_value_of}
use Rattle.statement_exec.proofs.typed.is_typed.Given as goal

-- the items and values that are left decide
abbrev pub invariant-loop-item : goal.invariant-loop-item
invariant-loop-item l = pointwise (λ item value. is_value_of item.kind value) (drop l.item-index l.items) l.rest ≡ pointwise (λ item value. is_value_of item.kind value) l.items l.row
