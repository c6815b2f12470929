-- Own: the changes of one index part, by its table and by the places of its values in a row of the table; and what is asked for them.
-- Private contracts alone cite this.
use Rattle.std.specs.Prelude.{◌≡◌, ℕ, Bool, true, false, List, [], ◌∷◌, Option, None, Some, Result, Ok, Err, if◌then◌else◌}
use Rattle.value_types.specs.declared.table_name.TableName.{TableName}
use Rattle.value_types.specs.declared.value.Value.{Value}
use Rattle.tsql_tree.specs.declared.definition.TableTree.{TableTree}
use Rattle.step_model.specs.declared.change.Deed.{Deed}
use Rattle.step_model.specs.declared.change.Deed.TheVariants.{Erase, Replace, Insert}
use Rattle.step_model.specs.declared.change.Planned.{Planned}
use Rattle.step_model.specs.declared.reply.Reply.{Reply}
use Rattle.step_model.specs.declared.reply.Reply.TheVariants as replies
use Rattle.step_model.specs.Dialog.{Dialog, over}
use Rattle.step_model.specs.Own.{is_own}
use Rattle.index_laws.specs.Deeds.{deeds_by, deeds_erased, deeds_written, inserts}
use Rattle.index_laws.specs.Parts.{RowChange}
use Rattle.table_rows.specs.Rows.{same_key, values_at}
use Rattle.dml_exec.specs.declared.refusal.Refusal.{Refusal}
use Rattle.dml_exec.specs.declared.refusal.Refusal.TheVariants.{Memory, TimedOut, Victim}
use Rattle.dml_exec.specs.declared.written.Halt.{Halt}
use Rattle.dml_exec.specs.Filling.{Row}
use Rattle.dml_exec.specs.Planning.{is_asked, is_same_row}
use Rattle.dml_exec.specs.Writing.{IsOrNoRoom, present, writes_one}

module _ (table : TableName) (places : List ℕ) where
  abbrev pub is_unchanged : Row → Row → Bool
  is_unchanged old new = is_same_row (values_at places new) (values_at places old)

  abbrev pub erased_of : RowChange → List Planned
  erased_of change = deeds_erased table (values_at places) (values_at places) is_unchanged change.old change.new

  abbrev pub written_of : RowChange → List Planned
  written_of change = deeds_written table (values_at places) (values_at places) is_unchanged change.old change.new

  abbrev pub deeds_of : List RowChange → List Planned
  deeds_of changes = deeds_by table (values_at places) (values_at places) is_unchanged changes

  -- of a row that comes, and of a row that is set
  abbrev pub index_insertion : Row → Planned
  index_insertion row = inserts table (values_at places) (values_at places) is_unchanged row

  abbrev pub rewritten_of : Row × Row → List Planned
  rewritten_of pair = written_of (record { old = Some pair.0; new = Some pair.1 })

  -- by the key at which its index row stands
  abbrev pub index_rewrite : List Value → Row → Planned
  index_rewrite place row =
      if same_key (values_at places row) place then (record { table = table; key = place; deed = Replace (values_at places row) }) else index_insertion row

-- ---- what is asked of index rows

-- the replies that a fetch may have
abbrev pub IsRowReply : Reply → Type 0
IsRowReply (replies.Row key row at) = Unit {0}
IsRowReply (replies.Gone key at) = Unit {0}
IsRowReply (replies.End at) = Unit {0}
IsRowReply replies.Memory = Unit {0}
IsRowReply (replies.TimedOut holder held asked on) = Unit {0}
IsRowReply (replies.Victim cycle) = Unit {0}
IsRowReply reply = ⊥

-- whether a row is there, by one of them
abbrev pub TellsRow : Reply → Result Bool Refusal → Type 0
TellsRow (replies.Row key row at) told = told ≡ Ok true
TellsRow (replies.Gone key at) told = told ≡ Ok false
TellsRow (replies.End at) told = told ≡ Ok false
TellsRow replies.Memory told = told ≡ Err Memory
TellsRow (replies.TimedOut holder held asked on) told = told ≡ Err TimedOut
TellsRow (replies.Victim cycle) told = told ≡ Err Victim
TellsRow reply told = ⊥

-- what was found of the first change, if it is one that was asked for, and of those behind it
abbrev pub found_of : Planned → List Bool → Option Bool
found_of change [] = None
found_of change (there ∷ found) = if is_asked change then Some there else None

abbrev pub found_behind : Planned → List Bool → List Bool
found_behind change [] = []
found_behind change (there ∷ found) = if is_asked change then found else there ∷ found

abbrev pub inserted_at : Planned → Row → Planned
inserted_at change row = record { table = change.table; key = change.key; deed = Insert row }

-- where none was there
abbrev pub writes_unless : List TableTree → Planned → Deed → Dialog (Result (Unit {0}) Halt)
writes_unless shapes change Erase = over (Ok tt)
writes_unless shapes change (Replace row) = writes_one shapes (inserted_at change row)
writes_unless shapes change (Insert row) = writes_one shapes change

abbrev pub writes_told : List TableTree → Option Bool → Planned → Dialog (Result (Unit {0}) Halt)
writes_told shapes None change = writes_one shapes change
writes_told shapes (Some true) change = writes_one shapes change
writes_told shapes (Some false) change = writes_unless shapes change change.deed

-- what is told of an insertion where a row is there
abbrev pub TellsThere : List TableTree → Planned → Result (Unit {0}) Halt → Type 0
TellsThere shapes change (Ok done) = is_own change ≡ false
TellsThere shapes change (Err halt) = (is_own change ≡ true) × IsOrNoRoom (present shapes change.table change.key) halt
