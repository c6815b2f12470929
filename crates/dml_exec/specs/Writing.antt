-- Own: what is asked for the changes of a write. The index rows that go or are replaced are asked for first, in their order. Then comes
-- a mark; then the changes in their order, as those were found; then the reads of UNIQUE and FOREIGN KEY, each judged before the next.
-- At an error or a refusal the rest is left, and the changes are taken back to the mark, if there is one. The end of the statement's
-- locks is no part of it.
use Rattle.std.specs.Prelude.{◌≡◌, ◌⊎◌, ℕ, ℤ, pos, Bool, true, false, List, [], ◌∷◌, ◌++◌, Option, Some, None, Result, Ok, Err, if◌then◌else◌}
use Rattle.lock_modes.specs.declared.KeyPart.TheVariants.{S, U}
use Rattle.value_types.specs.declared.table_name.TableName.{TableName}
use Rattle.value_types.specs.declared.value.Value.{Value}
use Rattle.tsql_tree.specs.declared.definition.KeyTree.{KeyTree}
use Rattle.tsql_tree.specs.declared.definition.TableTree.{TableTree}
use Rattle.step_model.specs.declared.change.Deed.{Deed}
use Rattle.step_model.specs.declared.change.Deed.TheVariants as deed
use Rattle.step_model.specs.declared.change.Planned.{Planned}
use Rattle.step_model.specs.declared.op.Hold.TheVariants as hold
use Rattle.step_model.specs.declared.op.Op.TheVariants as ops
use Rattle.step_model.specs.declared.range.KeyRange.{KeyRange}
use Rattle.step_model.specs.declared.range.Start.TheVariants.{At}
use Rattle.step_model.specs.declared.range.Stop.TheVariants.{Within}
use Rattle.step_model.specs.declared.reply.Reply.{Reply}
use Rattle.step_model.specs.declared.reply.Reply.TheVariants as replies
use Rattle.step_model.specs.Dialog.{Dialog, over, asks, never, tries, ◌then◌}
use Rattle.step_model.specs.Own.{is_own}
use Rattle.step_model.specs.Ranges.{Rows}
use Rattle.table_rows.specs.Definitions.{is_objects, name_in}
use Rattle.table_rows.specs.Rows.{part_shape, shape_of}
use Rattle.constraint_check.specs.declared.check_read.CheckRead.{CheckRead}
use Rattle.constraint_check.specs.Reads.{reads_for}
use Rattle.constraint_check.specs.Judged.{duplicate, judge}
use Rattle.dml_exec.specs.declared.refusal.Refusal.{Refusal}
use Rattle.dml_exec.specs.declared.refusal.Refusal.TheVariants.{Victim, TimedOut, Memory}
use Rattle.dml_exec.specs.declared.written.Attempt.{Attempt}
use Rattle.dml_exec.specs.declared.written.Halt.{Halt}
use Rattle.dml_exec.specs.declared.written.Halt.TheVariants as halt
use Rattle.dml_exec.specs.declared.written.Written.{Written}
use Rattle.dml_exec.specs.declared.written.Written.TheVariants as written
use Rattle.dml_exec.specs.Asking.{◌>>=◌, with_room}
use Rattle.dml_exec.specs.Planning.{as_found, is_asked}
use Rattle.dml_exec.specs.Reading.{fetch_of, is_one_key, key_width, rows_in}

-- memory is wanting
abbrev pub no_room : Halt
no_room = halt.Refused Memory

-- this is why, or there was no memory for its name
abbrev pub IsOrNoRoom : Halt → Halt → Type 0
IsOrNoRoom why halted = (halted ≡ why) ⊎ (halted ≡ no_room)

-- ---- one change

-- the error of a row that is there
abbrev pub object_present : ℤ
object_present = pos 2714

-- what has no name is nameless
abbrev pub or_nameless : Option (List ℕ) → List ℕ
or_nameless None = []
or_nameless (Some name) = name

-- the name of the PRIMARY KEY of a table
abbrev pub first_name : List KeyTree → Option (List ℕ)
first_name [] = None
first_name (key ∷ keys) = Some key.name

abbrev pub primary_name : Option TableTree → Option (List ℕ)
primary_name None = None
primary_name (Some shape) = first_name shape.key

abbrev pub broken : ℤ → List ℕ → Halt
broken number name = halt.Broken number name

-- what stands in the way of an insertion: in `objects` an object of that name, elsewhere a row of that key
abbrev pub present : List TableTree → TableName → List Value → Halt
present shapes table key =
    if is_objects table.object then broken object_present (or_nameless (name_in key)) else broken duplicate (or_nameless (primary_name (shape_of table shapes)))

-- What a reply says of a change. An insertion into an index part counts as done where a row is there. A row that is to be changed and
-- is not there is told as wanting memory: where it was fetched with U, or with its range, since the last Relax, that reply does
-- not come (own).
abbrev pub done_by : List TableTree → Planned → Reply → Dialog (Result (Unit {0}) Halt)
done_by shapes change replies.Done = over (Ok tt)
done_by shapes change replies.Exists = if is_own change then with_room no_room (over (Err (present shapes change.table change.key))) else over (Ok tt)
done_by shapes change replies.Missing = over (Err no_room)
done_by shapes change replies.Memory = over (Err no_room)
done_by shapes change (replies.TimedOut holder held asked on) = over (Err (halt.Refused TimedOut))
done_by shapes change (replies.Victim cycle) = over (Err (halt.Refused Victim))
done_by shapes change reply = never

-- the replies that a change may have
abbrev pub IsWriteReply : Reply → Type 0
IsWriteReply replies.Done = Unit {0}
IsWriteReply replies.Exists = Unit {0}
IsWriteReply replies.Missing = Unit {0}
IsWriteReply replies.Memory = Unit {0}
IsWriteReply (replies.TimedOut holder held asked on) = Unit {0}
IsWriteReply (replies.Victim cycle) = Unit {0}
IsWriteReply reply = ⊥

-- a change is asked
abbrev pub asks_deed : TableName → List Value → Deed → Dialog Reply
asks_deed table key deed.Erase = tries (ops.Erase table key) tt over
asks_deed table key (deed.Replace row) = tries (ops.Replace table key row) tt over
asks_deed table key (deed.Insert row) = tries (ops.Insert table key row) tt over

unfoldable pub writes_one : List TableTree → Planned → Dialog (Result (Unit {0}) Halt)
writes_one shapes change = asks_deed change.table change.key change.deed then done_by shapes change

-- one after another
unfoldable pub writes_all : List TableTree → List Planned → Dialog (Result (Unit {0}) Halt)
writes_all shapes [] = over (Ok tt)
writes_all shapes (change ∷ changes) = writes_one shapes change >>= λ done. writes_all shapes changes

-- ---- checks

abbrev pub halted : Result Rows Refusal → Dialog (Result Rows Halt)
halted (Ok rows) = over (Ok rows)
halted (Err refusal) = over (Err (halt.Refused refusal))

-- the rows of a check's range, of a part of a table of this shape
abbrev pub checks_range : Option TableTree → KeyRange → Dialog (Result Rows Refusal)
checks_range shape range = rows_in shape range.table.part (is_one_key (key_width shape range.table.part) range.start range.stop) (fetch_of range hold.Range S)

-- the rows are read
unfoldable pub rows_checked : List TableTree → KeyRange → Dialog (Result Rows Halt)
rows_checked shapes range = with_room no_room (checks_range (part_shape range.table shapes) range then halted)

-- the error that rows that were read give
abbrev pub broken_by : CheckRead → Option ℤ → Dialog (Result (Unit {0}) Halt)
broken_by read None = over (Ok tt)
broken_by read (Some number) = with_room no_room (over (Err (broken number read.name)))

-- and judged
unfoldable pub checks_one : List TableTree → CheckRead → Dialog (Result (Unit {0}) Halt)
checks_one shapes read = do
  found ← rows_checked shapes read.range
  broken_by read (judge read found)

unfoldable pub checks_all : List TableTree → List CheckRead → Dialog (Result (Unit {0}) Halt)
checks_all shapes [] = over (Ok tt)
checks_all shapes (read ∷ reads) = checks_one shapes read >>= λ done. checks_all shapes reads

-- ---- index rows

-- whether a row stands at a key that was fetched
abbrev pub row_told : Reply → Dialog (Result Bool Refusal)
row_told (replies.Row key row at) = over (Ok true)
row_told (replies.Gone key at) = over (Ok false)
row_told (replies.End at) = over (Ok false)
row_told replies.Memory = over (Err Memory)
row_told (replies.TimedOut holder held asked on) = over (Err TimedOut)
row_told (replies.Victim cycle) = over (Err Victim)
row_told reply = never

-- one fetch of a whole key, which holds its range; with U, since it is to be changed
unfoldable pub asks_key : TableName → List Value → Dialog (Result Bool Refusal)
asks_key table key = tries (ops.Fetch table (At key) (Within key) hold.Range U) tt row_told

-- those that are asked for, one after another, behind these answers
unfoldable pub asks_keys : List Planned → List Bool → Dialog (Result (List Bool) Refusal)
asks_keys [] so_far = over (Ok so_far)
asks_keys (change ∷ changes) so_far =
    if is_asked change then (asks_key change.table change.key >>= λ there. with_room Memory (asks_keys changes (so_far ++ there ∷ []))) else asks_keys changes so_far

-- ---- the whole

-- the changes as was found; the checks are those of what was planned
unfoldable pub works : List TableTree → List Planned → List Bool → Dialog (Result (Unit {0}) Halt)
works shapes changes found = do
  done ← writes_all shapes (as_found changes found)
  with_room no_room (checks_all shapes (reads_for changes shapes))

-- what came of the changes, and the mark in front of them, if one was set
abbrev pub told : Option ℕ → Result Written Refusal → Attempt
told mark came = record { mark = mark; came = came }

-- why it was taken back
abbrev pub outcome : Halt → Result Written Refusal
outcome (halt.Broken number name) = Ok (written.Refused number name)
outcome (halt.Refused refusal) = Err refusal

-- behind a reply that says that it is done
abbrev pub where_done : {A : Type 0} → Dialog A → Reply → Dialog A
where_done next replies.Done = next
where_done next reply = never

-- the statement's mark, or the changes are taken back to it
abbrev pub ends : ℕ → Result (Unit {0}) Halt → Dialog Attempt
ends mark (Ok done) = over (told (Some mark) (Ok (written.Done mark)))
ends mark (Err why) = asks (ops.BackTo mark) tt (where_done (over (told (Some mark) (outcome why))))

abbrev pub marked : List TableTree → List Planned → List Bool → Reply → Dialog Attempt
marked shapes changes found (replies.Marked mark) = works shapes changes found then ends mark
marked shapes changes found replies.Memory = over (told None (Err Memory))
marked shapes changes found reply = never

-- behind the answers, or why index rows were asked for no further
abbrev pub behind_keys : List TableTree → List Planned → Result (List Bool) Refusal → Dialog Attempt
behind_keys shapes changes (Ok found) = asks ops.Mark tt (marked shapes changes found)
behind_keys shapes changes (Err refusal) = over (told None (Err refusal))

-- The changes of a write are asked, and their checks; it gives the statement's mark.
unfoldable pub attempts : List TableTree → List Planned → Dialog Attempt
attempts shapes changes = asks_keys changes [] then behind_keys shapes changes

unfoldable pub writes : List TableTree → List Planned → Dialog (Result Written Refusal)
writes shapes changes = attempts shapes changes then λ attempt. over attempt.came
