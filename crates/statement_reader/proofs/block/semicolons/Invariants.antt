use Rattle.std.proofs.Common.{◌≡◌}
use Rattle.tsql_grammar.specs.declared.rule.Rule.TheVariants as r
use Rattle.lexeme_reader.specs.Reading.{read}
use Rattle.statement_reader.proofs.block.semicolons.Given as goal

abbrev pub invariant-loop-turn : goal.invariant-loop-turn
invariant-loop-turn l = read r.Semicolons l.lexemes ≡ read r.Semicolons l.fn.lexemes
