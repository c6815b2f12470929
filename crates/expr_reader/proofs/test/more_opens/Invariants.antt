use Rattle.std.proofs.Common.{◌≡◌}
use Rattle.tsql_grammar.specs.declared.rule.Rule.TheVariants as r
use Rattle.lexeme_reader.specs.Reading.{read}
use Rattle.expr_reader.proofs.test.more_opens.Given as goal

abbrev pub invariant-loop-opens : goal.invariant-loop-opens
invariant-loop-opens l = read (r.Opened l.opens) l.lexemes ≡ read (r.Opened 0) l.fn.lexemes
