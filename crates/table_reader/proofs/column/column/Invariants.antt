use Rattle.std.proofs.Common.{◌≡◌}
use Rattle.table_reader.specs.Drafts.{draft_of, column_rest, column_from}
use Rattle.table_reader.proofs.column.column.Given as goal

abbrev pub invariant-loop-turn : goal.invariant-loop-turn
invariant-loop-turn l = column_rest l.name l.kind l.required (draft_of l.draft) l.lexemes ≡ column_from l.fn.name l.fn.kind (draft_of l.fn.draft) l.fn.lexemes
