use Rattle.std.proofs.Common.{◌≡◌}
use Rattle.tsql_recognizer.specs.Notes.{Goes}
use Rattle.tsql_recognizer.specs.Stack.{expected}
use Rattle.tsql_recognizer.proofs.Feeding.{KeepsBefore}
use Rattle.tsql_recognizer.proofs.Weights.{lead}
use Rattle.tsql_recognizer.proofs.recognizer.feed.Given as goal

abbrev pub invariant-loop-symbol : goal.invariant-loop-symbol
invariant-loop-symbol l = record {
  keeps : Goes (KeepsBefore (expected l.initial.stack.items) l.kind (expected l.stack.items)) l.initial.notes l.notes;
  place : l.notes.place ≡ l.initial.notes.place;
}

abbrev pub decreases-loop-symbol : goal.decreases-loop-symbol
decreases-loop-symbol l = lead (expected l.stack.items)
