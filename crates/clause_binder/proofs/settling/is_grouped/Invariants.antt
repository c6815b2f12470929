use Rattle.std.proofs.Common.{◌≡◌, drop}
use Rattle.std.specs.List.{list_any}
use Rattle.clause_binder.specs.Same as same
use Rattle.clause_binder.proofs.settling.is_grouped.Given as goal

abbrev pub invariant-loop-group : goal.invariant-loop-group
invariant-loop-group l = list_any (same.same_expr l.a) (drop l.group-index l.groups) ≡ list_any (same.same_expr l.a) l.groups
