-- Own: a table while it is read. The grammar has a function on drafts for each element and each
-- constraint of a column; code goes along the elements with a draft.
use Rattle.std.specs.Prelude.{◌≡◌, ◌||◌, ℕ, Bool, false, List, Option, Some, None, Result, Ok, Err}
use Rattle.value_types.specs.declared.sql_type.SqlType.{SqlType}
use Rattle.tsql_lexer.specs.declared.lexeme.Sign.TheVariants as s
use Rattle.tsql_grammar.specs.declared.kind.Kind.TheVariants as k
use Rattle.tsql_grammar.specs.declared.rule.Class.TheVariants as c
use Rattle.tsql_grammar.specs.declared.rule.Rule.TheVariants as r
use Rattle.tsql_grammar.specs.Terminals.{Terminal}
use Rattle.tsql_grammar.specs.Trees.{Draft, add_column, add_key, add_unique, add_check, add_foreign}
use Rattle.lexeme_reader.specs.declared.fault.ReadFault.{ReadFault}
use Rattle.lexeme_reader.specs.declared.fault.ReadFault.TheVariants.{Refused}
use Rattle.lexeme_reader.specs.Reading.{Outcome, read, expect, ◌>>=◌}
use Rattle.table_reader.specs.declared.draft.Constraint.{Constraint}
use Rattle.table_reader.specs.declared.draft.Constraint.TheVariants as constraint
use Rattle.table_reader.specs.declared.draft.TableDraft.{TableDraft}

-- the code's draft as the grammar's
abbrev pub draft_of : TableDraft → Draft
draft_of d = record { table = d.table; uniques = d.uniques; checks = d.checks; foreigns = d.foreigns }

-- The reader left the draft that is read; the rest as `Gives` says it.
abbrev pub GivesDraft : Outcome Draft → Result (Unit {0}) ReadFault → TableDraft → List Terminal → Type 0
GivesDraft outcome (Ok a) draft rest = outcome ≡ Some (draft_of draft, rest)
GivesDraft outcome (Err e) draft rest = e ≡ Refused → outcome ≡ None

-- what a constraint, of a name or of none, adds to a draft
abbrev pub added_by : Constraint → Option (List ℕ) → Draft → Draft
added_by (constraint.Key columns) = add_key columns
added_by (constraint.Unique columns) = add_unique columns
added_by (constraint.Check test) = add_check test
added_by (constraint.Foreign columns parent parent_columns) = add_foreign columns parent parent_columns

-- The reader gave the constraint that is read; the rest as `Gives` says it.
abbrev pub GivesConstraint : Outcome (Option (List ℕ) → Draft → Draft) → Result Constraint ReadFault → List Terminal → Type 0
GivesConstraint outcome (Ok a) rest = outcome ≡ Some (added_by a, rest)
GivesConstraint outcome (Err e) rest = e ≡ Refused → outcome ≡ None

-- a constraint of a column
abbrev pub column_constraint_from : List ℕ → List Terminal → Outcome (Option (List ℕ) → Draft → Draft)
column_constraint_from column w = do
  own ← read r.ColumnConstraint w
  Some (λ name. own.0 name column, own.1)

-- what follows the type of a column that is added to a draft; NOT NULL may have come before
abbrev pub column_rest : List ℕ → SqlType → Bool → Draft → List Terminal → Outcome Draft
column_rest name kind required d w = do
  traits ← read r.ColumnTraits w
  Some (traits.0.add name (add_column (record { name = name; kind = kind; required = required || traits.0.required }) d), traits.1)

abbrev pub column_from : List ℕ → SqlType → Draft → List Terminal → Outcome Draft
column_from name kind d w = column_rest name kind false d w

-- names in parentheses
abbrev pub enclosed_names : List Terminal → Outcome (List (List ℕ))
enclosed_names w = do
  open_ ← expect (c.One (k.Sign s.Open)) w
  names ← read r.Names open_.1
  last ← expect (c.One (k.Sign s.Close)) names.1
  Some (names.0, last.1)
