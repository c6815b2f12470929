use Rattle.std.proofs.Common.{◌≡◌, ◌++◌, map, take}
use Rattle.query_eval.proofs.references.add_own.Given as goal

abbrev pub invariant-loop-reference : goal.invariant-loop-reference
invariant-loop-reference l = l.tables.items ≡ l.fn.tables.items ++ map (λ ref. ref.table) (take l.reference-index l.refs)
