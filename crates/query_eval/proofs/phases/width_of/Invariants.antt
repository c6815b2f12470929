use Rattle.std.proofs.Common.{◌≡◌, ◌+◌, drop, sum_by}
use Rattle.query_eval.proofs.phases.width_of.Given as goal

abbrev pub invariant-loop-reference : goal.invariant-loop-reference
invariant-loop-reference l =
    l.width + sum_by (λ reference. reference.width) (drop l.reference-index l.refs) ≡ sum_by (λ reference. reference.width) l.refs
