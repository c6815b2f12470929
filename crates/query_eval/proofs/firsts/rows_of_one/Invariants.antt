use Rattle.std.proofs.Common.{◌≡◌, ◌∷◌, [], map}
use Rattle.query_eval.proofs.firsts.rows_of_one.Given as goal

abbrev pub invariant-loop-value : goal.invariant-loop-value
invariant-loop-value l = l.rows.items ≡ map (λ value. value ∷ []) l.yielded
