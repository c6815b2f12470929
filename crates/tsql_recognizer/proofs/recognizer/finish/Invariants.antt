use Rattle.tsql_recognizer.specs.Notes.{Goes}
use Rattle.tsql_recognizer.specs.Stack.{expected}
use Rattle.tsql_recognizer.proofs.Feeding.{KeepsAtEnd}
use Rattle.tsql_recognizer.proofs.Weights.{lead}
use Rattle.tsql_recognizer.proofs.recognizer.finish.Given as goal

abbrev pub invariant-loop-symbol : goal.invariant-loop-symbol
invariant-loop-symbol l = Goes (KeepsAtEnd (expected l.initial.stack.items) (expected l.stack.items)) l.initial.notes l.notes

abbrev pub decreases-loop-symbol : goal.decreases-loop-symbol
decreases-loop-symbol l = lead (expected l.stack.items)
