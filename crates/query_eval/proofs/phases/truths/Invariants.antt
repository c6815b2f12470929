use Rattle.std.proofs.Common.{◌≡◌, drop}
use Rattle.bound_tree.specs.Meaning as meaning
use Rattle.query_eval.specs.Found.{setting_at}
use Rattle.query_eval.specs.Phases.{each}
use Rattle.query_eval.proofs.Each.{each_onto}
use Rattle.query_eval.proofs.phases.truths.Given as goal

abbrev pub invariant-loop-row : goal.invariant-loop-row
invariant-loop-row l =
    each_onto (λ row. meaning.truth (setting_at l.context row) l.test) l.truths.items (drop l.row-index l.rows) ≡ each (λ row. meaning.truth (setting_at l.context row) l.test) l.rows
