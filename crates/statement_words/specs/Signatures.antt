-- Transact-SQL reference, CREATE PROCEDURE and CREATE TRIGGER: what stands before their bodies.
use Rattle.std.specs.Prelude.{List, ◌∷◌, Some}
use Rattle.tsql_tree.specs.declared.definition.Event.{Event}
use Rattle.tsql_grammar.specs.declared.rule.Rule.TheVariants as r
use Rattle.tsql_grammar.specs.Terminals.{Terminal}
use Rattle.lexeme_reader.specs.Reading.{Outcome, read, ◌>>=◌}

-- the events of a trigger, each behind a comma
abbrev pub events_from : List Terminal → Outcome (List Event)
events_from w = do
  first ← read r.Event w
  more ← read r.MoreEvents first.1
  Some (first.0 ∷ more.0, more.1)
