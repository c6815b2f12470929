use Rattle.std.proofs.Common.{◌≡◌}
use Rattle.tsql_grammar.specs.declared.rule.Rule.TheVariants as r
use Rattle.lexeme_reader.specs.Reading.{read, applied}
use Rattle.table_reader.specs.Drafts.{draft_of}
use Rattle.table_reader.proofs.tables.more_elements.Given as goal

abbrev pub invariant-loop-turn : goal.invariant-loop-turn
invariant-loop-turn l = applied (draft_of l.draft) (read r.MoreElements l.lexemes) ≡ applied (draft_of l.fn.draft) (read r.MoreElements l.fn.lexemes)
