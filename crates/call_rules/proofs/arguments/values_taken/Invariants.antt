use Rattle.std.proofs.Common.{◌≡◌, drop}
use Rattle.call_rules.specs.Arguments.{values_taken}
use Rattle.call_rules.specs.Found.{lent}
use Rattle.call_rules.proofs.Outcomes.{onto}
use Rattle.call_rules.proofs.arguments.values_taken.Given as goal

-- those so far, in front of those that are left
abbrev pub invariant-loop-argument : goal.invariant-loop-argument
invariant-loop-argument l = onto l.values.items (values_taken l.vars l.rest (lent (drop l.argument-index l.arguments))) ≡ values_taken l.vars l.parameters (lent l.arguments)
