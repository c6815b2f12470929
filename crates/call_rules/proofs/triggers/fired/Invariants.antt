use Rattle.std.proofs.Common.{◌≡◌, ◌++◌, drop}
use Rattle.std.specs.Prelude.{filter_map}
use Rattle.std.specs.List.{enumerate_from}
use Rattle.call_rules.specs.Triggers.{fired_as}
use Rattle.call_rules.proofs.triggers.fired.Given as goal

-- those so far, and those of the definitions that are left
abbrev pub invariant-loop-place : goal.invariant-loop-place
invariant-loop-place l = l.fired.items ++ filter_map (fired_as l.table l.event) (enumerate_from l.place (drop l.place l.definitions)) ≡ filter_map (fired_as l.table l.event) (enumerate_from 0 l.definitions)
