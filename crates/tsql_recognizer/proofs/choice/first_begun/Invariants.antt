use Rattle.std.proofs.Common.{◌≡◌, drop, map}
use Rattle.tsql_recognizer.specs.Stack.{shown, first_begun}
use Rattle.tsql_recognizer.proofs.choice.first_begun.Given as goal

abbrev pub invariant-loop-production : goal.invariant-loop-production
invariant-loop-production l = first_begun (map shown (drop l.production-index l.productions)) l.kind ≡ first_begun (map shown l.productions) l.kind
