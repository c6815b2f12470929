use Rattle.std.proofs.Common.{◌≡◌, map, take}
use Rattle.query_eval.proofs.phases.downs_of.Given as goal

abbrev pub invariant-loop-by : goal.invariant-loop-by
invariant-loop-by l = l.downs.items ≡ map (λ by. by.descending) (take l.by-index l.order)
