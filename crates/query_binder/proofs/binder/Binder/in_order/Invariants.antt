use Rattle.std.proofs.Common.{◌≡◌, map, drop}
use Rattle.clause_binder.specs.Bind as spec
use Rattle.clause_binder.specs.Clauses as clause
use Rattle.clause_binder.specs.Progress as part
use Rattle.query_binder.proofs.binder.Binder.in_order.Given as goal

abbrev pub invariant-loop-by : goal.invariant-loop-by
invariant-loop-by l =
    part.all_onto l.done (map clause.order_inside (map (spec.order_of l.self.definitions.now l.self.vars.now) (drop l.by-index l.order)))
    ≡ part.all_onto part.nothing (map clause.order_inside (map (spec.order_of l.self.definitions.now l.self.vars.now) l.order))
