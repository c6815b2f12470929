use Rattle.std.proofs.Common.{◌≡◌}
use Rattle.tsql_grammar.specs.declared.rule.Rule.TheVariants as r
use Rattle.lexeme_reader.specs.Reading.{read, front}
use Rattle.statement_words.proofs.call.more_arguments.Given as goal

abbrev pub invariant-loop-turn : goal.invariant-loop-turn
invariant-loop-turn l = front l.more (read r.MoreArguments l.lexemes) ≡ read r.MoreArguments l.fn.lexemes
