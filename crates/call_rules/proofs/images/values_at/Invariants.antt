use Rattle.std.proofs.Common.{◌≡◌, ◌++◌, drop, length, map}
use Rattle.bound_tree.specs.Setting.{value_at}
use Rattle.call_rules.proofs.images.values_at.Given as goal

-- the values so far, and those at the places that are left, are all values
abbrev pub invariant-loop-place : goal.invariant-loop-place
invariant-loop-place l = record {
  values : l.values.items ++ map (value_at l.row) (drop l.place-index l.places) ≡ map (value_at l.row) l.places;
  many : length l.values.items ≡ l.place-index;
}
