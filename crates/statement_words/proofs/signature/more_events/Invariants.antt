use Rattle.std.proofs.Common.{◌≡◌}
use Rattle.tsql_grammar.specs.declared.rule.Rule.TheVariants as r
use Rattle.lexeme_reader.specs.Reading.{read, front}
use Rattle.statement_words.proofs.signature.more_events.Given as goal

abbrev pub invariant-loop-turn : goal.invariant-loop-turn
invariant-loop-turn l = front l.more (read r.MoreEvents l.lexemes) ≡ read r.MoreEvents l.fn.lexemes
