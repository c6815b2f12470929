use Rattle.std.proofs.Common.{◌≡◌, drop, map}
use Rattle.grammar_laws.specs.Lookahead.{begins_by}
use Rattle.tsql_grammar.specs.Lookahead.{first, nullable}
use Rattle.tsql_recognizer.specs.Stack.{symbol_of}
use Rattle.tsql_grammar.specs.Terminals.{admits}
use Rattle.tsql_recognizer.proofs.choice.begins.Given as goal

abbrev pub invariant-loop-symbol : goal.invariant-loop-symbol
invariant-loop-symbol l =
    begins_by admits first nullable (map symbol_of (drop l.symbol-index l.symbols)) l.kind ≡ begins_by admits first nullable (map symbol_of l.symbols) l.kind
