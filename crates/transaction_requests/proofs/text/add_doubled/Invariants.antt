use Rattle.std.proofs.Common.{◌≡◌, ◌++◌, take}
use Rattle.std.specs.List.{flat_map}
use Rattle.transaction_requests.specs.Text.{doubled}
use Rattle.transaction_requests.proofs.text.add_doubled.Given as goal

-- the units so far stand behind what was there
abbrev pub invariant-loop-unit : goal.invariant-loop-unit
invariant-loop-unit l = l.out.items ≡ l.fn.out.items ++ flat_map doubled (take l.unit-index l.units)
