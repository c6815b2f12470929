use Rattle.std.proofs.Common.{◌≡◌}
use Rattle.tsql_grammar.specs.declared.rule.Rule.TheVariants as r
use Rattle.lexeme_reader.specs.Reading.{read, front}
use Rattle.expr_reader.proofs.reader.Reader.more_arms.Given as goal

abbrev pub invariant-loop-turn : goal.invariant-loop-turn
invariant-loop-turn g l = front l.more (read r.MoreArms l.lexemes) ≡ read r.MoreArms l.fn.lexemes
