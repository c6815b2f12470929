use Rattle.std.proofs.Common.{◌≡◌, drop}
use Rattle.bound_tree.specs.Meaning as meaning
use Rattle.query_eval.specs.Found.{setting_at}
use Rattle.query_eval.specs.Phases.{each}
use Rattle.query_eval.specs.Places.{row_at}
use Rattle.query_eval.proofs.Each.{each_onto}
use Rattle.query_eval.proofs.classes.class_values.Given as goal

abbrev pub invariant-loop-place : goal.invariant-loop-place
invariant-loop-place l =
    each_onto (λ place. meaning.value (setting_at l.context (row_at l.rows place)) l.expr) l.values.items (drop l.place-index l.class)
    ≡ each (λ place. meaning.value (setting_at l.context (row_at l.rows place)) l.expr) l.class
