use Rattle.std.proofs.Common.{◌≡◌, take}
use Rattle.bound_tree.specs.Texts as texts
use Rattle.scalar_eval.proofs.comparison.count_units.Given as goal

abbrev pub invariant-loop-place : goal.invariant-loop-place
invariant-loop-place l = l.count ≡ texts.count_units (take l.place l.units)
