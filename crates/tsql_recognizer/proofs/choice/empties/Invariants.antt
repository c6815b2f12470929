use Rattle.std.proofs.Common.{◌≡◌, drop, map}
use Rattle.grammar_laws.specs.Lookahead.{empties_by}
use Rattle.tsql_grammar.specs.Lookahead.{nullable}
use Rattle.tsql_recognizer.specs.Stack.{symbol_of}
use Rattle.tsql_recognizer.proofs.choice.empties.Given as goal

abbrev pub invariant-loop-symbol : goal.invariant-loop-symbol
invariant-loop-symbol l = empties_by nullable (map symbol_of (drop l.symbol-index l.symbols)) ≡ empties_by nullable (map symbol_of l.symbols)
