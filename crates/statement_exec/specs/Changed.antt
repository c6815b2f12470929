-- Own: how far a write has come where its triggers, if it fires any, are to run: it is done, or what is left of it is the definition's `fires`.
use Rattle.std.specs.Prelude.{◌≡◌, ◌==◌, true, IsTrue, List, ◌∷◌, Result, Ok, Err}
use Rattle.std.specs.List.{list_any}
use Rattle.tsql_tree.specs.declared.definition.Definition.{Definition}
use Rattle.tsql_tree.specs.declared.definition.TableTree.{TableTree}
use Rattle.tsql_tree.specs.declared.statement.Statement.{Statement}
use Rattle.bound_tree.specs.declared.write.BoundWrite.{BoundWrite}
use Rattle.table_rows.specs.Definitions.{tables_of}
use Rattle.table_rows.specs.Rows.{shape_of}
use Rattle.dml_exec.specs.Planning.{table_written}
use Rattle.step_model.specs.declared.change.Planned.{Planned}
use Rattle.step_model.specs.Ranges.{Rows}
use Rattle.step_model.specs.Port.{PortPast}
use Rattle.batch_meaning.specs.declared.failure.Failure.{Failure}
use Rattle.batch_meaning.specs.declared.stop.Stop.{Stop}
use Rattle.batch_meaning.specs.declared.stop.Stop.TheVariants.{Failed}
use Rattle.batch_meaning.specs.Raised.{Around}
use Rattle.batch_meaning.specs.Tokens.{done_kind}
use Rattle.batch_meaning.specs.Selecting.{Effect}
use Rattle.batch_meaning.specs.Changing.{planned_over, told_by}
use Rattle.batch_meaning.specs.Asking.{◌>>=◌, applies, comes_to, with_room}
use Rattle.batch_meaning.specs.Working.{if_it_fits}
use Rattle.batch_meaning.specs.Writes.{Written, fired_by, fires_of, shape_or}
use Rattle.batch_meaning.specs.Progress.{SessionProgress}
use Rattle.batch_meaning.specs.Doing.{Did, Doing, Leads, over, reads}
use Rattle.batch_meaning.specs.Meaning.{Meaning, fires}
use Rattle.statement_exec.specs.declared.changing.Change.{Change}
use Rattle.statement_exec.specs.declared.changing.Change.TheVariants.{Done, Fires}

-- what it tells
abbrev pub effect_in : Change → Effect
effect_in (Done effect) = effect
effect_in (Fires home written) = written.effect

-- from this progress the tree came to its end, or its triggers are to run
abbrev pub HasWritten : PortPast → PortPast → Doing (Result Effect Stop) → (Statement → Meaning) → Around → SessionProgress → Result Change Failure → SessionProgress → Type 0
HasWritten before after tree one around old (Ok (Done effect)) new = Did before after tree old (Ok (Ok effect)) new
HasWritten before after tree one around old (Ok (Fires home written)) new = Leads before after tree old (fires one around home written) new
HasWritten before after tree one around old (Err failure) new = Did before after tree old (Ok (Err (Failed failure))) new

-- where they are, a transaction is open in which the statement's mark is live
abbrev pub MayFire : Change → PortPast → Type 0
MayFire (Done effect) past = Unit {0}
MayFire (Fires home written) past = (past.standing.is_open ≡ true) × IsTrue (list_any (λ live. live == written.mark) past.standing.marks)

-- ---- the parts of a write

module _ (around : Around) (shape : TableTree) (shapes : List TableTree) (write : BoundWrite) (definitions : List Definition) (images : List Rows) where
  -- what is left of it where it has planned, and what it tells fits
  unfoldable pub changes_planned : List Planned → Effect → Doing (Result Written Failure)
  changes_planned planned fitting = do
    fires ← comes_to (Ok (fires_of around definitions write))
    fired ← comes_to (Ok (fired_by (shape_or shape (shape_of (table_written write) (shape ∷ shapes))) write images planned))
    mark ← with_room (applies (tables_of definitions) planned)
    over (Ok (record { effect = fitting; mark = mark; fires = fires; fired = fired }))

  -- and where it has read
  unfoldable pub changes_read : Doing (Result Written Failure)
  changes_read = do
    planned ← (reads λ p. comes_to (planned_over around p (shape ∷ shapes) write images))
    effect ← (reads λ p. comes_to (Ok (told_by (done_kind around) p.settings.no_count write planned)))
    fitting ← if_it_fits effect
    changes_planned planned fitting
