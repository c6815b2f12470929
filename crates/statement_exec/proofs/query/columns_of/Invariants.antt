use Rattle.std.proofs.Common.{◌≡◌, map, take}
use Rattle.statement_exec.proofs.query.columns_of.Given as goal

abbrev pub invariant-loop-item : goal.invariant-loop-item
invariant-loop-item l = l.columns.items ≡ map (λ item. record { kind = item.kind; name = item.name }) (take l.item-index l.items)
