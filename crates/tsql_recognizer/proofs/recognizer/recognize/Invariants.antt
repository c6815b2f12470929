use Rattle.std.proofs.Common.{length}
use Rattle.tsql_grammar.specs.Noted.{start}
use Rattle.tsql_grammar.specs.Terminals.{terminals}
use Rattle.tsql_recognizer.specs.Stack.{expected}
use Rattle.tsql_recognizer.proofs.Reached.{Reached}
use Rattle.tsql_recognizer.proofs.recognizer.recognize.Given as goal

abbrev pub invariant-loop-spanned : goal.invariant-loop-spanned
invariant-loop-spanned l = Reached l.fn.rule (terminals l.fn.lexemes) (start l.fn.judges) (expected l.stack.items) (terminals l.rest) l.notes

abbrev pub decreases-loop-spanned : goal.decreases-loop-spanned
decreases-loop-spanned l = length l.rest
