use Rattle.std.proofs.Common.{◌≡◌, drop}
use Rattle.std.specs.Ordering.{eq_by_cmp}
use Rattle.value_types.specs.Order.{key_cmp}
use Rattle.table_rows.proofs.parts.same_values.Given as goal

-- what is left of both decides
abbrev pub invariant-loop-value : goal.invariant-loop-value
invariant-loop-value l = eq_by_cmp key_cmp (drop l.value-index l.a) l.rest ≡ eq_by_cmp key_cmp l.a l.b
