use Rattle.std.proofs.Common.{◌≡◌}
use Rattle.tsql_grammar.specs.declared.rule.Rule.TheVariants as r
use Rattle.lexeme_reader.specs.Reading.{read}
use Rattle.lexeme_reader.proofs.Front.{counted}
use Rattle.expr_reader.proofs.test.more_nots.Given as goal

abbrev pub invariant-loop-nots : goal.invariant-loop-nots
invariant-loop-nots l = counted l.nots (read r.MoreNots l.lexemes) ≡ read r.MoreNots l.fn.lexemes
