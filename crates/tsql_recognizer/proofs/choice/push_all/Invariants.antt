use Rattle.std.proofs.Common.{◌≡◌, ◌++◌}
use Rattle.tsql_recognizer.proofs.choice.push_all.Given as goal

abbrev pub invariant-loop-symbol : goal.invariant-loop-symbol
invariant-loop-symbol l = l.stack.items ≡ l.initial.stack.items ++ l.yielded
