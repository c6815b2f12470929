use Rattle.std.proofs.Common.{◌≡◌, ◌++◌, map, drop}
use Rattle.binder.proofs.create_table.check_names.Given as goal

abbrev pub invariant-loop-check : goal.invariant-loop-check
invariant-loop-check l = l.names ++ map (λ check. check.name) (drop l.check-index l.checks) ≡ l.initial.names ++ map (λ check. check.name) l.checks
