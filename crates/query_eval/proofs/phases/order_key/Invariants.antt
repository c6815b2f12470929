use Rattle.std.proofs.Common.{◌≡◌, drop}
use Rattle.query_eval.specs.Found.{setting_at}
use Rattle.query_eval.specs.Phases.{each, order_value}
use Rattle.query_eval.proofs.Each.{each_onto}
use Rattle.query_eval.proofs.phases.order_key.Given as goal

abbrev pub invariant-loop-by : goal.invariant-loop-by
invariant-loop-by l =
    each_onto (λ by. order_value (setting_at l.context) l.pair by.key) l.values.items (drop l.by-index l.order) ≡ each (λ by. order_value (setting_at l.context) l.pair by.key) l.order
