use Rattle.std.proofs.Common.{◌≡◌}
use Rattle.tsql_grammar.specs.declared.rule.Rule.TheVariants as r
use Rattle.lexeme_reader.specs.Reading.{read, front}
use Rattle.expr_reader.proofs.expr.more_signs.Given as goal

abbrev pub invariant-loop-turn : goal.invariant-loop-turn
invariant-loop-turn l = front l.more (read r.MoreSigns l.lexemes) ≡ read r.MoreSigns l.fn.lexemes
