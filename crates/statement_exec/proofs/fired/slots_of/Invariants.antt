use Rattle.std.proofs.Common.{◌≡◌, ◌++◌, Some, map}
use Rattle.statement_exec.proofs.fired.slots_of.Given as goal

-- the slots so far, and those of what is left, are all
abbrev pub invariant-loop-definition : goal.invariant-loop-definition
invariant-loop-definition l = l.slots.items ++ map (λ definition. Some definition) l.definition-iterator.rest.items ≡ map (λ definition. Some definition) l.fn.definitions.items
