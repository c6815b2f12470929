use Rattle.std.proofs.Common.{◌≡◌, drop}
use Rattle.bound_tree.specs.Meaning as meaning
use Rattle.query_eval.specs.Found.{setting_at}
use Rattle.query_eval.specs.Phases.{each}
use Rattle.query_eval.proofs.Each.{each_onto}
use Rattle.query_eval.proofs.phases.item_row.Given as goal

abbrev pub invariant-loop-item : goal.invariant-loop-item
invariant-loop-item l =
    each_onto (λ item. meaning.value (setting_at l.context l.row) item.expr) l.values.items (drop l.item-index l.items) ≡ each (λ item. meaning.value (setting_at l.context l.row) item.expr) l.items
