use Rattle.std.proofs.Common.{◌≡◌, ◌++◌, drop, Ok}
use Rattle.bound_tree.specs.Outcomes.{after}
use Rattle.query_eval.specs.Found.{setting_at}
use Rattle.query_eval.specs.Phases.{each, sum_value}
use Rattle.query_eval.specs.Places.{rows_at_places}
use Rattle.query_eval.proofs.Each.{each_onto}
use Rattle.query_eval.proofs.classes.with_totals.Given as goal

abbrev pub invariant-loop-sum : goal.invariant-loop-sum
invariant-loop-sum l =
    let gives = sum_value (setting_at l.context) (rows_at_places l.rows l.class) in
    each_onto gives l.values.items (drop l.sum-index l.sums) ≡ after (each gives l.sums) (λ totals. Ok (l.fn.values.items ++ totals))
