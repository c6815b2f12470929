use Rattle.std.proofs.Common.{◌≡◌, map, take}
use Rattle.statement_exec.proofs.cursors.kinds_in.Given as goal

abbrev pub invariant-loop-item : goal.invariant-loop-item
invariant-loop-item l = l.kinds.items ≡ map (λ item. item.kind) (take l.item-index l.items)
