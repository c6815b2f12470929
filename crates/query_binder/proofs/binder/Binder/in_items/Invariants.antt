use Rattle.std.proofs.Common.{◌≡◌, map, drop}
use Rattle.clause_binder.specs.Bind as spec
use Rattle.clause_binder.specs.Clauses as clause
use Rattle.clause_binder.specs.Progress as part
use Rattle.query_binder.proofs.binder.Binder.in_items.Given as goal

abbrev pub invariant-loop-item : goal.invariant-loop-item
invariant-loop-item l =
    part.all_onto l.done (map clause.item_inside (map (spec.item_of l.self.definitions.now l.self.vars.now) (drop l.item-index l.items)))
    ≡ part.all_onto part.nothing (map clause.item_inside (map (spec.item_of l.self.definitions.now l.self.vars.now) l.items))
