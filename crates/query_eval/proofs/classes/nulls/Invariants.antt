use Rattle.std.proofs.Common.{◌≡◌, replicate}
use Rattle.value_types.specs.declared.value.Value.TheVariants.{Null}
use Rattle.query_eval.proofs.classes.nulls.Given as goal

abbrev pub invariant-loop-place : goal.invariant-loop-place
invariant-loop-place l = l.values.items ≡ replicate l._place Null
