use Rattle.std.proofs.Common.{◌≡◌, drop}
use Rattle.bound_tree.specs.Meaning as meaning
use Rattle.query_eval.specs.Found.{setting_at}
use Rattle.query_eval.specs.Phases.{each}
use Rattle.query_eval.proofs.Each.{each_onto}
use Rattle.query_eval.proofs.classes.key_of.Given as goal

abbrev pub invariant-loop-expr : goal.invariant-loop-expr
invariant-loop-expr l =
    let gives = meaning.value (setting_at l.context l.row) in
    each_onto gives l.values.items (drop l.expr-index l.exprs) ≡ each gives l.exprs
