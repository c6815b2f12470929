use Rattle.std.proofs.Common.{◌≡◌}
use Rattle.tsql_grammar.specs.declared.rule.Rule.TheVariants as r
use Rattle.lexeme_reader.specs.Reading.{read, applied}
use Rattle.expr_reader.proofs.reader.Reader.tested.Given as goal

abbrev pub invariant-loop-closes : goal.invariant-loop-closes
invariant-loop-closes g l = applied l.test (read (r.Tested l.closes) l.lexemes) ≡ applied l.fn.first (read (r.Tested l.opens) l.fn.lexemes)

abbrev pub decreases-loop-closes : goal.decreases-loop-closes
decreases-loop-closes g l = l.closes
