use Rattle.bound_tree.specs.Meaning as meaning
use Rattle.query_eval.specs.Found.{setting_at}
use Rattle.query_eval.specs.Phases.{each}
use Rattle.query_eval.proofs.Fewer.{Fewer}
use Rattle.query_eval.proofs.phases.fewer_pairs.Given as goal

abbrev pub invariant-loop-row : goal.invariant-loop-row
invariant-loop-row l = Fewer (λ row. each (λ item. meaning.value (setting_at l.context row) item.expr) l.items) l.yielded l.pairs.items
