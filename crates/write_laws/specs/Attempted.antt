-- Own: what a write leaves that keeps index parts. Its rows were told by fetches that keep them; behind these only fetches came, and those that asked
-- for its index rows; then a mark; and then one exchange for each of its changes, as the index rows were found. Behind the changes of rows others
-- of own rows may stand, as DROP TABLE has them of definitions. The database at the transaction's place becomes what was planned, whatever was
-- found, and behind the changes of rows each part follows its table's rows.
use Rattle.std.specs.Prelude.{◌≡◌, Bool, true, List, [], ◌∷◌, ◌++◌, Ok}
use Rattle.std.specs.List.{AllByRecursion}
use Rattle.lock_modes.specs.declared.KeyPart.TheVariants.{U}
use Rattle.value_types.specs.declared.value.Value.{Value}
use Rattle.tsql_tree.specs.declared.definition.TableTree.{TableTree}
use Rattle.step_model.specs.declared.change.Planned.{Planned}
use Rattle.step_model.specs.declared.manner.Manner.{Manner}
use Rattle.step_model.specs.declared.op.Op.TheVariants as ops
use Rattle.step_model.specs.declared.range.KeyRange.{KeyRange}
use Rattle.step_model.specs.Dialog.{Held}
use Rattle.step_model.specs.Exchange.{CanReply, Exchange}
use Rattle.step_model.specs.Fits.{fetches_current, inserts_fresh, numbers_rise, ranges_hold, targets_stable}
use Rattle.step_model.specs.Log.{Commit as Logged}
use Rattle.step_model.specs.Own.{is_own}
use Rattle.constraint_check.specs.Laws.{behind}
use Rattle.table_rows.specs.Rows.{rows_table}
use Rattle.dml_exec.specs.declared.refusal.Level.{Level}
use Rattle.dml_exec.specs.declared.rewritten.Rewritten.{Rewritten}
use Rattle.dml_exec.specs.Reading.{hold_at}
use Rattle.dml_exec.specs.Planning.{all_changes, as_found, row_changes_of}
use Rattle.dml_exec.specs.Writing.{asks_keys}
use Rattle.statement_paths.specs.Asked.{AskOnly, IsFetch}
use Rattle.statement_paths.specs.Paths.{AreApplied}
use Rattle.write_laws.specs.Indexed.{Indexed, own_rows}
use Rattle.write_laws.specs.Indexing.{all_deeds}
use Rattle.write_laws.specs.Made.{AreMade}
use Rattle.write_laws.specs.Reads.{at_place}
use Rattle.write_laws.specs.Rewrites.{AreApart, AreTaken, IsTaken, rows_taken}
use Rattle.write_laws.specs.Sound.{Firm, IsTableOf}

-- what is planned of rows of a table
abbrev pub plan_of : TableTree → (List Value → List Value → Bool) → Rewritten → List Planned
plan_of shape equal rows = all_deeds shape equal (row_changes_of rows)

-- Such are the exchanges: those in front; those that told the rows; fetches behind them; those that asked for index rows; a mark; and those of
-- the changes, which were made as was found.
pub record IsMade (mine before reads between keys put later : List Exchange) (mark : Exchange) (manner : Manner) (level : Level) (range : KeyRange) (shape : TableTree) (equal : List Value → List Value → Bool) (rows : Rewritten) (more : List Planned) (found : List Bool) : Type 0 where
  pub split : mine ≡ before ++ (reads ++ (between ++ (keys ++ mark ∷ (put ++ later))))
  pub table : range.table ≡ rows_table shape.name
  pub reads_fetch : AskOnly IsFetch reads
  pub between_fetch : AskOnly IsFetch between
  pub marks : mark.op ≡ ops.Mark
  pub marked : CanReply ops.Mark mark.reply
  pub taken : AllByRecursion (IsTaken reads range (hold_at level) U shape) (rows_taken rows)
  pub apart : AreApart shape (rows_taken rows)
  pub own : AllByRecursion (λ change. is_own change ≡ true) more
  pub asks : Held manner (asks_keys (plan_of shape equal rows ++ more) []) keys (Ok found)
  pub makes : AreMade (as_found (plan_of shape equal rows ++ more) found) put

-- Where a session's exchanges fit a log, and the database at the transaction's place in front of the write keeps what it is to keep, that is so behind it.
abbrev pub WriteFollows : Type 0
WriteFollows = (begin log : List Logged) (mine before reads between keys put later : List Exchange) (mark : Exchange) (manner : Manner) (level : Level) (range : KeyRange) (shape : TableTree) (equal : List Value → List Value → Bool) (rows : Rewritten)
    (more : List Planned) (found : List Bool) → numbers_rise begin log mine → fetches_current log mine → ranges_hold log mine → inserts_fresh log mine → targets_stable log mine
    → IsMade mine before reads between keys put later mark manner level range shape equal rows more found → ((a b : List Value) → equal a b ≡ true → a ≡ b)
    → Firm (own_rows (at_place log ((before ++ reads) ++ between) later)) → Indexed (at_place log ((before ++ reads) ++ between) later) → IsTableOf (at_place log ((before ++ reads) ++ between) later) shape
    → (at_place log ((((before ++ reads) ++ between) ++ (keys ++ mark ∷ [])) ++ put) later ≡ behind (at_place log ((before ++ reads) ++ between) later) (plan_of shape equal rows ++ more))
    × Indexed (behind (at_place log ((before ++ reads) ++ between) later) (plan_of shape equal rows))

-- ---- a write that was planned and applied

-- The plan is of rows of a table, behind which others of own rows may stand. The rows that it takes were told by fetches among these
-- exchanges, behind which only fetches came.
pub record IsToldPlan (before : List Exchange) (level : Level) (shape : TableTree) (plan : List Planned) : Type 0 where
  pub rows : Rewritten
  pub more : List Planned
  pub plans : plan ≡ all_changes (rows_table shape.name) shape rows ++ more
  pub own : AllByRecursion (λ change. is_own change ≡ true) more
  pub front : List Exchange
  pub reads : List Exchange
  pub between : List Exchange
  pub split : before ≡ front ++ (reads ++ between)
  pub reads_fetch : AskOnly IsFetch reads
  pub between_fetch : AskOnly IsFetch between
  pub taken : AreTaken reads level shape rows

-- So the database at the transaction's place becomes what was planned; behind the changes of rows, with its parts.
abbrev pub AppliedFollows : Type 0
AppliedFollows = (begin log : List Logged) (mine before part later : List Exchange) (manner : Manner) (shapes : List TableTree) (level : Level) (shape : TableTree) (plan planned : List Planned)
    → mine ≡ before ++ (part ++ later) → numbers_rise begin log mine → fetches_current log mine → ranges_hold log mine → inserts_fresh log mine → targets_stable log mine
    → (told : IsToldPlan before level shape plan) → AreApplied manner shapes plan planned part
    → Firm (own_rows (at_place log before later)) → Indexed (at_place log before later) → IsTableOf (at_place log before later) shape
    → (at_place log (before ++ part) later ≡ behind (at_place log before later) plan) × Indexed (behind (at_place log before later) (all_changes (rows_table shape.name) shape told.rows))
