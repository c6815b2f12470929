use Rattle.std.proofs.Common.{◌≡◌, ◌++◌, map, drop}
use Rattle.binder.proofs.update.set_names.Given as goal

abbrev pub invariant-loop-set : goal.invariant-loop-set
invariant-loop-set l = l.names ++ map (λ set. set.name) (drop l.set-index l.sets) ≡ map (λ set. set.name) l.sets
