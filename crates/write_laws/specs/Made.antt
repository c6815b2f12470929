-- Own: the laws of changes that were made, one exchange for each. Behind them the database at the transaction's place is what they leave; each
-- insertion that was done came to a key without a row; and the rows that a write takes stood there as they were read.
use Rattle.std.specs.Prelude.{◌≡◌, ◌&&◌, Bool, true, false, not, List, [], ◌∷◌, ◌++◌, None, Some, Ok}
use Rattle.lock_modes.specs.declared.KeyPart.TheVariants.{U}
use Rattle.value_types.specs.declared.table_name.TableName.{TableName}
use Rattle.value_types.specs.declared.value.Value.{Value}
use Rattle.tsql_tree.specs.declared.definition.TableTree.{TableTree}
use Rattle.step_model.specs.declared.change.Deed.{Deed}
use Rattle.step_model.specs.declared.change.Deed.TheVariants as deed
use Rattle.step_model.specs.declared.change.Planned.{Planned}
use Rattle.step_model.specs.declared.manner.Manner.{Manner}
use Rattle.step_model.specs.declared.op.Op.{Op}
use Rattle.step_model.specs.declared.op.Op.TheVariants as ops
use Rattle.step_model.specs.declared.range.KeyRange.{KeyRange}
use Rattle.step_model.specs.declared.reply.Reply.{Reply}
use Rattle.step_model.specs.declared.reply.Reply.TheVariants.{Done, Exists}
use Rattle.step_model.specs.Database.{Database, With, with_change}
use Rattle.step_model.specs.Dialog.{Held}
use Rattle.step_model.specs.Exchange.{Exchange}
use Rattle.step_model.specs.Fits.{NoRelax, NoneEnds, fetches_current, inserts_fresh, numbers_rise, targets_stable}
use Rattle.step_model.specs.Log.{Commit as Logged}
use Rattle.step_model.specs.Own.{change_of, is_insert, is_own}
use Rattle.index_laws.specs.Deeds.{deeds_by}
use Rattle.index_laws.specs.Laws.{FreshRows, erasures_of, itself, never}
use Rattle.index_laws.specs.Parts.{IsOld, OfRow, RowChange}
use Rattle.table_rows.specs.Rows.{key_of}
use Rattle.constraint_check.specs.Laws.{behind}
use Rattle.dml_exec.specs.declared.refusal.Level.{Level}
use Rattle.dml_exec.specs.Filling.{Row}
use Rattle.dml_exec.specs.Reading.{hold_at}
use Rattle.dml_exec.specs.Writing.{writes_all}
use Rattle.statement_paths.specs.Asked.{AskOnly, IsFetch}
use Rattle.write_laws.specs.Reads.{at_place}
use Rattle.write_laws.specs.Rewrites.{IsTaken}

-- ---- one exchange for each change

-- the operation that a change asks
abbrev pub op_of : TableName → List Value → Deed → Op
op_of table key deed.Erase = ops.Erase table key
op_of table key (deed.Replace row) = ops.Replace table key row
op_of table key (deed.Insert row) = ops.Insert table key row

-- by this reply the change was made; an insertion into an index part counts as made where a row is there
abbrev pub IsMadeBy : Planned → Reply → Type 0
IsMadeBy change Done = Unit {0}
IsMadeBy change Exists = (is_own change ≡ false) × (is_insert change.deed ≡ true)
IsMadeBy change reply = ⊥

abbrev pub AreMade : List Planned → List Exchange → Type 0
AreMade [] part = part ≡ []
AreMade (change ∷ changes) part =
    (x : Exchange) × (rest : List Exchange) × (part ≡ x ∷ rest) × (x.op ≡ op_of change.table change.key change.deed) × IsMadeBy change x.reply × AreMade changes rest

-- such are the exchanges of changes that were asked one after another, and made
abbrev pub WritesMake : Type 0
WritesMake = (manner : Manner) (shapes : List TableTree) (changes : List Planned) (part : List Exchange) → Held manner (writes_all shapes changes) part (Ok tt) → AreMade changes part

-- ---- what they leave

abbrev pub IfSo : Bool → Type 0 → Type 0
IfSo true P = P
IfSo false P = Unit {0}

-- each of the changes that are meant comes to a key without a row, behind those in front of it
abbrev pub ComeFree : (Planned → Bool) → Database → List Planned → Type 0
ComeFree meant db [] = Unit {0}
ComeFree meant db (change ∷ changes) = IfSo (meant change) (db change.table change.key ≡ None) × ComeFree meant (with_change db (change_of change)) changes

-- the insertions
abbrev pub inserts : Planned → Bool
inserts change = is_insert change.deed

-- and those into index parts
abbrev pub inserts_into_part : Planned → Bool
inserts_into_part change = not (is_own change) && is_insert change.deed

-- If those into index parts come to free keys, all do, and each change is made as it was meant.
abbrev pub MadeLeave : Type 0
MadeLeave = (log : List Logged) (mine before part later : List Exchange) (changes : List Planned) → mine ≡ before ++ (part ++ later) → inserts_fresh log mine → AreMade changes part
    → ComeFree inserts_into_part (at_place log before later) changes
    → (at_place log (before ++ part) later ≡ behind (at_place log before later) changes) × ComeFree inserts (at_place log before later) changes

-- of what is done at the keys of rows that change it says that their insertions are fresh
abbrev pub FreeFresh : Type 0
FreeFresh = (db : Database) (table : TableName) (key_of : OfRow) (changes : List RowChange) (more : List Planned) → ComeFree inserts db (deeds_by table key_of itself never changes ++ more)
    → FreshRows table key_of (With db (erasures_of table key_of changes)) changes

-- ---- the rows that a write takes

-- A row that was taken, and whose change was made before its transaction and its statement ended, stands where all is read.
abbrev pub TakenStand : Type 0
TakenStand = (begin log : List Logged) (mine before part between put later : List Exchange) (level : Level) (shape : TableTree) (range : KeyRange) (changes : List RowChange) (more : List Planned) (row : Row)
    → mine ≡ before ++ (part ++ (between ++ (put ++ later))) → numbers_rise begin log mine → fetches_current log mine → targets_stable log mine
    → AskOnly IsFetch part → NoneEnds between → NoRelax between → AreMade (deeds_by range.table (key_of shape) itself never changes ++ more) put
    → IsOld row changes → IsTaken part range (hold_at level) U shape row
    → at_place log (before ++ part) (between ++ (put ++ later)) range.table (key_of shape row) ≡ Some row
