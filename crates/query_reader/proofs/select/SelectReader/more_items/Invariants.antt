use Rattle.std.proofs.Common.{◌≡◌}
use Rattle.tsql_grammar.specs.declared.rule.Rule.TheVariants as r
use Rattle.lexeme_reader.specs.Reading.{read, front}
use Rattle.query_reader.proofs.select.SelectReader.more_items.Given as goal

abbrev pub invariant-loop-turn : goal.invariant-loop-turn
invariant-loop-turn g l = front l.more (read r.MoreItems l.lexemes) ≡ read r.MoreItems l.fn.lexemes
