-- Own: the laws of rows that were told. Each row that is read of a range came of a fetch among what was asked, with its key; so did the rows
-- that an UPDATE or DELETE is planned on, of fetches that keep them: with U for the statement, or with their range for the transaction.
use Rattle.std.specs.Prelude.{◌≡◌, ℕ, Bool, List, ◌∷◌, ◌++◌, filter, map, IsTrue, None, Option, Ok}
use Rattle.std.specs.List.{AllByRecursion}
use Rattle.std.specs.List.Sorted.{IsStrictlySortedBy}
use Rattle.lock_modes.specs.declared.KeyPart.{KeyPart}
use Rattle.lock_modes.specs.declared.KeyPart.TheVariants.{U}
use Rattle.value_types.specs.declared.table_name.TableName.{TableName}
use Rattle.value_types.specs.declared.value.Value.{Value}
use Rattle.value_types.specs.Order.{key_cmp}
use Rattle.tsql_tree.specs.declared.definition.TableTree.{TableTree}
use Rattle.bound_tree.specs.declared.write.Bound.TheVariants as bound
use Rattle.bound_tree.specs.declared.write.BoundWrite.{BoundWrite}
use Rattle.bound_tree.specs.declared.write.BoundWrite.TheVariants as write
use Rattle.step_model.specs.declared.manner.Manner.{Manner}
use Rattle.step_model.specs.declared.op.Hold.{Hold}
use Rattle.step_model.specs.declared.op.Op.TheVariants.{Fetch}
use Rattle.step_model.specs.declared.range.KeyRange.{KeyRange}
use Rattle.step_model.specs.declared.range.Start.{Start}
use Rattle.step_model.specs.declared.range.Stop.{Stop}
use Rattle.step_model.specs.declared.reply.Reply.TheVariants.{Row}
use Rattle.step_model.specs.Database.{is_within}
use Rattle.step_model.specs.Dialog.{Held}
use Rattle.step_model.specs.Exchange.{Exchange}
use Rattle.step_model.specs.Ranges.{Keeps, Rows}
use Rattle.table_rows.specs.Rows.{shape_of}
use Rattle.dml_exec.specs.declared.refusal.Level.{Level}
use Rattle.dml_exec.specs.Planning.{table_written}
use Rattle.dml_exec.specs.Reading.{GivenRows, fetch_of, fits, hold_at, images_of, rows_in, target_read}
use Rattle.write_laws.specs.Planning.{target_image}

-- ---- the rows of a range

-- One of these exchanges is a fetch of the table up to this end, which holds so much and locks so, and its reply was this row at its key.
pub record WasTold (part : List Exchange) (table : TableName) (stop : Stop) (hold : Hold) (lock : KeyPart) (at : List Value × List Value) : Type 0 where
  pub front : List Exchange
  pub fetch : Exchange
  pub behind : List Exchange
  pub split : part ≡ front ++ fetch ∷ behind
  pub start : Start
  pub number : ℕ
  pub asked : fetch.op ≡ Fetch table start stop hold lock
  pub told : fetch.reply ≡ Row at.0 at.1 number

-- and the key is one of the range
abbrev pub ToldThere : List Exchange → KeyRange → Hold → KeyPart → List Value × List Value → Type 0
ToldThere part range hold lock at = IsTrue (is_within range.start range.stop at.0) × WasTold part range.table range.stop hold lock at

-- rows of a range that are kept, in strict order of their keys, each told by such a fetch
abbrev pub AreTold : List Exchange → Keeps → KeyRange → Hold → KeyPart → Rows → Type 0
AreTold part keeps range hold lock rows = (entries : List (List Value × List Value)) × IsStrictlySortedBy (λ at other. key_cmp at.0 other.0) entries × AllByRecursion (ToldThere part range hold lock) entries
    × (rows ≡ map (λ at. at.1) (filter keeps entries))

-- such are those that were read of a range
abbrev pub RowsTold : Type 0
RowsTold = (manner : Manner) (part : List Exchange) (shape : Option TableTree) (one : Bool) (range : KeyRange) (hold : Hold) (lock : KeyPart) (rows : Rows)
    → Held manner (rows_in shape 0 one (fetch_of range hold lock)) part (Ok rows) → AreTold part (fits shape 0) range hold lock rows

-- ---- the rows of a target

-- those among the images that a write is planned on, each told by a fetch with U; an INSERT has none
abbrev pub TargetTold : List Value → List TableTree → Level → BoundWrite → List Exchange → List Rows → Type 0
TargetTold vars shapes level (write.Insert table places given) part images = Unit {0}
TargetTold vars shapes level (write.Update table sets test inner) part images =
    AreTold part (fits (shape_of table shapes) 0) (target_read vars shapes table test).0 (hold_at level) U (target_image inner images)
TargetTold vars shapes level (write.Delete table test inner) part images =
    AreTold part (fits (shape_of table shapes) 0) (target_read vars shapes table test).0 (hold_at level) U (target_image inner images)

-- such were read for a write of a table that is not given
abbrev pub TargetsRead : Type 0
TargetsRead = (manner : Manner) (given : GivenRows) (shapes : List TableTree) (level : Level) (vars : List Value) (of : BoundWrite) (part : List Exchange) (images : List Rows)
    → given (table_written of) ≡ None → Held manner (images_of given shapes level vars (bound.Write of)) part (Ok images) → TargetTold vars shapes level of part images
