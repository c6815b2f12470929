use Rattle.std.proofs.Common.{◌≡◌}
use Rattle.tsql_grammar.specs.declared.rule.Rule.TheVariants as r
use Rattle.lexeme_reader.specs.Reading.{read_in, front}
use Rattle.statement_reader.proofs.reader.Reader.body.Given as goal

abbrev pub invariant-loop-turn : goal.invariant-loop-turn
invariant-loop-turn g l = front l.body (read_in l.fn.self.text.now (r.Body l.fn.around) l.lexemes) ≡ read_in l.fn.self.text.now (r.Body l.fn.around) l.fn.lexemes
