-- Own: the laws of the rows that a write is planned on. Under each level a row that a statement fetched with U, or with its range, and then
-- wrote, stands at its transaction's place in the log as it was read, among what the transaction had changed by then.
use Rattle.std.specs.Prelude.{◌≡◌, ℕ, true, [], List, ◌∷◌, ◌++◌, length, Some}
use Rattle.lock_modes.specs.declared.KeyPart.{KeyPart}
use Rattle.lock_modes.specs.declared.KeyPart.TheVariants.{U}
use Rattle.value_types.specs.declared.table_name.TableName.{TableName}
use Rattle.value_types.specs.declared.value.Value.{Value}
use Rattle.step_model.specs.declared.op.Hold.{Hold}
use Rattle.step_model.specs.declared.op.Op.TheVariants.{Fetch}
use Rattle.step_model.specs.declared.range.Start.{Start}
use Rattle.step_model.specs.declared.range.Stop.{Stop}
use Rattle.step_model.specs.declared.reply.Reply.TheVariants.{Row}
use Rattle.step_model.specs.Exchange.{Exchange}
use Rattle.step_model.specs.Fits.{KeepsRow, NoRelax, NoneEnds, WritesAt, fetches_current, numbers_rise, place_of, targets_stable, view}
use Rattle.step_model.specs.Log.{Commit as Logged}
use Rattle.step_model.specs.Own.{progress_of}
use Rattle.table_rows.specs.Rows.{same_key}
use Rattle.dml_exec.specs.declared.refusal.Level.{Level}
use Rattle.dml_exec.specs.Reading.{hold_at}
use Rattle.statement_paths.specs.Asked.{AskOnly, IsFetch}
use Rattle.write_laws.specs.Reads.{at_place}
use Rattle.write_laws.specs.Told.{WasTold}

-- The fetch that read the row, with what was asked up to where the statement's mark is set; nothing of that changes what the transaction
-- has written. Then others of its writes, and this one.
pub record IsTarget (mine before reads between later : List Exchange) (fetch write : Exchange) (table : TableName) (key row : List Value) : Type 0 where
  pub split : mine ≡ before ++ fetch ∷ ((reads ++ between) ++ write ∷ later)
  pub start : Start
  pub stop : Stop
  pub hold : Hold
  pub part : KeyPart
  pub own_key : List Value
  pub number : ℕ
  pub asked : fetch.op ≡ Fetch table start stop hold part
  pub told : fetch.reply ≡ Row own_key row number
  pub one_key : same_key key own_key ≡ true
  pub keeps : KeepsRow fetch.op fetch.reply (reads ++ between) table key
  pub goes_on : NoneEnds ((reads ++ between) ++ write ∷ [])
  pub still : (progress_of (before ++ fetch ∷ reads)).own ≡ (progress_of before).own
  pub writes : WritesAt write.op write.reply table key

abbrev pub TargetStands : Type 0
TargetStands = (begin log : List Logged) (mine before reads between later : List Exchange) (fetch write : Exchange) (table : TableName) (key row : List Value)
    → numbers_rise begin log mine → fetches_current log mine → targets_stable log mine → IsTarget mine before reads between later fetch write table key row
    → view log (place_of (length log) later) (before ++ fetch ∷ reads) table key ≡ Some row

-- So does each row that was told among what was read for a statement, by a fetch of its level with U, and that is written before the statement
-- and its transaction end: it stands there where all is read.
abbrev pub ToldStands : Type 0
ToldStands = (begin log : List Logged) (mine before part between later : List Exchange) (write : Exchange) (level : Level) (table : TableName) (stop : Stop) (at : List Value × List Value) (key : List Value)
    → mine ≡ before ++ (part ++ (between ++ write ∷ later)) → numbers_rise begin log mine → fetches_current log mine → targets_stable log mine
    → AskOnly IsFetch part → WasTold part table stop (hold_at level) U at → NoneEnds (between ++ write ∷ []) → NoRelax between
    → same_key key at.0 ≡ true → WritesAt write.op write.reply table key
    → at_place log (before ++ part) (between ++ write ∷ later) table key ≡ Some at.1
