use Rattle.std.proofs.Common.{◌≡◌, drop}
use Rattle.tsql_grammar.specs.Lookahead.{of_any}
use Rattle.lexeme_reader.proofs.cursor.of_any.Given as goal

abbrev pub invariant-loop-class : goal.invariant-loop-class
invariant-loop-class l = of_any (drop l.class-index l.classes) l.kind ≡ of_any l.classes l.kind
