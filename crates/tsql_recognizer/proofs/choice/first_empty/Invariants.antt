use Rattle.std.proofs.Common.{◌≡◌, drop, map}
use Rattle.tsql_recognizer.specs.Stack.{shown, first_empty}
use Rattle.tsql_recognizer.proofs.choice.first_empty.Given as goal

abbrev pub invariant-loop-production : goal.invariant-loop-production
invariant-loop-production l = first_empty (map shown (drop l.production-index l.productions)) ≡ first_empty (map shown l.productions)
