use Rattle.std.proofs.Common.{◌≡◌, drop}
use Rattle.query_eval.specs.Found.{setting_at}
use Rattle.query_eval.specs.Phases.{each, order_value}
use Rattle.query_eval.proofs.Each.{each_onto}
use Rattle.query_eval.proofs.phases.order_keys.Given as goal

abbrev pub invariant-loop-pair : goal.invariant-loop-pair
invariant-loop-pair l =
    each_onto (λ pair. each (λ by. order_value (setting_at l.context) pair by.key) l.order) l.keys.items (drop l.pair-index l.pairs) ≡ each (λ pair. each (λ by. order_value (setting_at l.context) pair by.key) l.order) l.pairs
