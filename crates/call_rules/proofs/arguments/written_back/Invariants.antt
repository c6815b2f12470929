use Rattle.std.proofs.Common.{◌≡◌, ◌++◌, drop}
use Rattle.call_rules.specs.Arguments.{written_back}
use Rattle.call_rules.specs.Found.{lent}
use Rattle.call_rules.proofs.arguments.written_back.Given as goal

-- those so far, and those of the arguments that are left
abbrev pub invariant-loop-place : goal.invariant-loop-place
invariant-loop-place l = l.outputs.items ++ written_back l.place (lent (drop l.place l.arguments)) ≡ written_back 0 (lent l.arguments)
