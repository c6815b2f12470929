-- Own: how the rows of a range are fetched: from its start, and then from behind the last key, until End. A range of one whole key is
-- one fetch. A range that was answered by so many keys is read no further. The code goes on in a loop; here the rest of the
-- range is a dialog again.
use Rattle.std.specs.Prelude.{ℕ, zero, suc, ◌&&◌, codes, is_some, nat_eq, nat_lt, not, Bool, true, false, if◌then◌else◌, List, [], ◌∷◌, ◌++◌, length, map, Option, Some, None, Result, Ok, Err}
use Rattle.std.specs.List.{flat_map, list_any}
use Rattle.lock_modes.specs.declared.KeyPart.{KeyPart}
use Rattle.lock_modes.specs.declared.KeyPart.TheVariants.{S, U}
use Rattle.value_types.specs.Units.{same_units}
use Rattle.value_types.specs.declared.table_name.TableName.{TableName}
use Rattle.value_types.specs.declared.value.Value.{Value}
use Rattle.value_types.specs.declared.value.Value.TheVariants.{Null}
use Rattle.tsql_tree.specs.declared.definition.TableTree.{TableTree}
use Rattle.tsql_tree.specs.Places.{key_places}
use Rattle.bound_tree.specs.declared.expr.BoundTest.{BoundTest}
use Rattle.bound_tree.specs.declared.query.BoundQuery.{BoundQuery}
use Rattle.bound_tree.specs.declared.query.InnerQuery.{InnerQuery, out-InnerQuery}
use Rattle.bound_tree.specs.declared.write.Bound.{Bound}
use Rattle.bound_tree.specs.declared.write.Bound.TheVariants as bound
use Rattle.bound_tree.specs.declared.write.BoundRows.{BoundRows}
use Rattle.bound_tree.specs.declared.write.BoundRows.TheVariants as rows
use Rattle.bound_tree.specs.declared.write.BoundWrite.{BoundWrite}
use Rattle.bound_tree.specs.declared.write.BoundWrite.TheVariants as write
use Rattle.query_eval.specs.Given.{tables_read}
use Rattle.step_model.specs.declared.op.Hold.{Hold}
use Rattle.step_model.specs.declared.op.Hold.TheVariants as hold
use Rattle.step_model.specs.declared.op.Op.{Op}
use Rattle.step_model.specs.declared.op.Op.TheVariants.{Fetch}
use Rattle.step_model.specs.declared.range.KeyRange.{KeyRange}
use Rattle.step_model.specs.declared.range.Start.{Start}
use Rattle.step_model.specs.declared.range.Start.TheVariants.{First, At, Past}
use Rattle.step_model.specs.declared.range.Stop.{Stop}
use Rattle.step_model.specs.declared.range.Stop.TheVariants.{Last, Within}
use Rattle.step_model.specs.declared.reply.Reply.{Reply}
use Rattle.step_model.specs.declared.reply.Reply.TheVariants as replies
use Rattle.step_model.specs.Exchange.{IsPartOfFetch}
use Rattle.step_model.specs.Dialog.{Dialog, over, asks, never}
use Rattle.step_model.specs.Ranges.{Rows, Keeps, range_limit, with_row}
use Rattle.range_plan.specs.RangeOf.{RangeOf}
use Rattle.range_plan.specs.OnRanges.{ranges_of}
use Rattle.table_rows.specs.Rows.{part_places, row_fits, same_key, shape_of}
use Rattle.dml_exec.specs.declared.refusal.Refusal.{Refusal}
use Rattle.dml_exec.specs.declared.refusal.Refusal.TheVariants.{Victim, TimedOut, Limit, Memory}
use Rattle.dml_exec.specs.declared.refusal.Level.{Level}
use Rattle.dml_exec.specs.declared.refusal.Level.TheVariants.{ReadCommitted, Serializable}
use Rattle.dml_exec.specs.Asking.{◌>>=◌, with_room, with_room_if}

-- ---- one range

-- which rows are read as rows of a part of a table of this shape, by the key at which each stands: of no table no row is
abbrev pub fits : Option TableTree → ℕ → Keeps
fits None part row = false
fits (Some shape) part row = row_fits shape part row.0 row.1

-- A range of one whole key: keys that compare equal are one key. A front of a key is none, as many keys may begin with it.
abbrev pub is_one_key : ℕ → Start → Stop → Bool
is_one_key width First stop = false
is_one_key width (At key) Last = false
is_one_key width (At key) (Within last) = nat_eq (length key) width && same_key key last
is_one_key width (Past key) stop = false

-- the fetch of a range
abbrev pub fetch_of : KeyRange → Hold → KeyPart → Op
fetch_of range hold part = Fetch range.table range.start range.stop hold part

-- that of the same range from another start
abbrev pub from : Start → Op → Op
from start (Fetch table earlier stop hold part) = Fetch table start stop hold part
from start op = op

-- how many values the keys of a part of a table of this shape have: in an index part as many as its rows
abbrev pub places_width : Option (List ℕ) → ℕ
places_width None = 0
places_width (Some places) = length places

abbrev pub index_width : Option TableTree → ℕ → ℕ
index_width None part = 0
index_width (Some shape) part = places_width (part_places shape part)

abbrev pub key_width : Option TableTree → ℕ → ℕ
key_width shape part = if nat_eq part 0 then length (key_places shape) else index_width shape part

-- whether keys of so many values may begin with a key
abbrev pub is_short : ℕ → List Value → Bool
is_short width key = nat_lt (length key) width

-- Where a range goes on behind a key without a row. That may be one of an earlier table of the name, which the transaction itself has
-- dropped: where it has fewer values than the keys of this table, keys of this one may begin with it, and the range goes on at the first
-- of these.
abbrev pub behind_gone : ℕ → List Value → Start
behind_gone width key = if is_short width key then At (key ++ Null ∷ []) else Past key

-- a fetch with a part that it may have
abbrev pub IsFetch : Op → Type 0
IsFetch (Fetch table start stop hold part) = IsPartOfFetch part
IsFetch op = ⊥

-- What a fetch's reply makes of the rows so far: with them where to go on, or nothing at the end. Row adds its row, if it is
-- kept, for which memory may be wanting; Gone adds none, and memory may be wanting for a longer key. The keys of the table have so many
-- values.
abbrev pub read_by : ℕ → Keeps → Rows → Reply → Dialog (Result (Rows × Option Start) Refusal)
read_by width keeps so_far (replies.Row key row at) = with_room Memory (over (Ok (with_row keeps so_far key row, Some (Past key))))
read_by width keeps so_far (replies.Gone key at) = with_room_if (is_short width key) Memory (over (Ok (so_far, Some (behind_gone width key))))
read_by width keeps so_far (replies.End at) = over (Ok (so_far, None))
read_by width keeps so_far replies.Memory = over (Err Memory)
read_by width keeps so_far (replies.TimedOut holder held asked on) = over (Err TimedOut)
read_by width keeps so_far (replies.Victim cycle) = over (Err Victim)
read_by width keeps so_far reply = never

abbrev pub fetches : ℕ → Keeps → Op → Rows → Dialog (Result (Rows × Option Start) Refusal)
fetches width keeps (Fetch table start stop hold part) so_far = asks (Fetch table start stop hold part) tt (read_by width keeps so_far)
fetches width keeps op so_far = never

-- behind a key the range goes on
abbrev pub reads_on : (Rows → Start → Dialog (Result Rows Refusal)) → Rows × Option Start → Dialog (Result Rows Refusal)
reads_on next (so_far, None) = over (Ok so_far)
reads_on next (so_far, Some start) = next so_far start

-- the rest of a range, behind these rows; so many more keys may be looked at
unfoldable pub rows_from : ℕ → Keeps → ℕ → Op → Rows → Dialog (Result Rows Refusal)
rows_from width keeps zero fetch so_far = over (Err Limit)
rows_from width keeps (suc left) fetch so_far = fetches width keeps fetch so_far >>= reads_on (λ more start. rows_from width keeps left (from start fetch) more)

-- the rows of a range of a part of a table of this shape; of one whole key, the row at it, or none
unfoldable pub rows_in : Option TableTree → ℕ → Bool → Op → Dialog (Result Rows Refusal)
rows_in shape part true fetch = fetches (key_width shape part) (fits shape part) fetch [] >>= λ came. over (Ok came.0)
rows_in shape part false fetch = rows_from (key_width shape part) (fits shape part) range_limit fetch []

-- ---- the images of a statement

-- the range of a table that is read, and whether that is the target of UPDATE or DELETE
abbrev pub TableRead : Type 0
TableRead = KeyRange × Bool

abbrev pub shared : KeyRange → TableRead
shared range = (range, false)

-- each reference is read on its range
abbrev pub query_reads : List Value → BoundQuery → List TableRead
query_reads vars query = map shared (ranges_of vars query)

abbrev pub inner_reads : List Value → List InnerQuery → List TableRead
inner_reads vars inner = flat_map (λ of. query_reads vars (out-InnerQuery of).query) inner

abbrev pub rows_reads : List Value → BoundRows → List TableRead
rows_reads vars (rows.Values values inner) = inner_reads vars inner
rows_reads vars (rows.Query query) = query_reads vars query

-- and so is a target, by the key of its shape
abbrev pub target_read : List Value → List TableTree → TableName → Option BoundTest → TableRead
target_read vars shapes table filter = (RangeOf filter 0 table (key_places (shape_of table shapes)) vars, true)

abbrev pub write_reads : List Value → List TableTree → BoundWrite → List TableRead
write_reads vars shapes (write.Insert table places given) = rows_reads vars given
write_reads vars shapes (write.Update table sets filter inner) = inner_reads vars inner ++ target_read vars shapes table filter ∷ []
write_reads vars shapes (write.Delete table filter inner) = inner_reads vars inner ++ target_read vars shapes table filter ∷ []

-- what is read for a statement, for inner queries first
abbrev pub reads_of : List Value → List TableTree → Bound → List TableRead
reads_of vars shapes (bound.Query query) = query_reads vars query
reads_of vars shapes (bound.Assign query places) = query_reads vars query
reads_of vars shapes (bound.Write of) = write_reads vars shapes of
reads_of vars shapes bound.Plain = []

-- what a level holds of the tables that it reads
abbrev pub hold_at : Level → Hold
hold_at ReadCommitted = hold.Row
hold_at Serializable = hold.Range

-- a target is read with U
abbrev pub part_of : Bool → KeyPart
part_of true = U
part_of false = S

-- the fetch of a range that is read
abbrev pub table_fetch : Level → TableRead → Op
table_fetch level read = fetch_of read.0 (hold_at level) (part_of read.1)

-- the rows of tables that are given, and not fetched
abbrev pub GivenRows : Type 0
GivenRows = TableName → Option Rows

abbrev pub none_given : GivenRows
none_given table = None

-- in a trigger these are the rows that its statement took away and put there
pub record TriggerRows : Type 0 where
  pub deleted : Rows
  pub inserted : Rows

abbrev pub deleted_name : List ℕ
deleted_name = codes "deleted"

abbrev pub inserted_name : List ℕ
inserted_name = codes "inserted"

abbrev pub rows_called : List ℕ → TriggerRows → Option Rows
rows_called name rows = if same_units name inserted_name then Some rows.inserted else if same_units name deleted_name then Some rows.deleted else None

abbrev pub given_of : Option TriggerRows → GivenRows
given_of None table = None
given_of (Some rows) table = rows_called table.object rows

abbrev pub unless_given : Option Rows → Dialog (Result Rows Refusal) → Dialog (Result Rows Refusal)
unless_given None fetched = fetched
unless_given (Some rows) fetched = with_room Memory (over (Ok rows))

-- the rows of a range that is read, of the own rows of a table of this shape
abbrev pub reads_range : Option TableTree → Level → TableRead → Dialog (Result Rows Refusal)
reads_range shape level read = rows_in shape 0 (is_one_key (key_width shape 0) read.0.start read.0.stop) (table_fetch level read)

unfoldable pub reads_table : GivenRows → List TableTree → Level → TableRead → Dialog (Result Rows Refusal)
reads_table given shapes level read = unless_given (given read.0.table) (reads_range (shape_of read.0.table shapes) level read)

-- ranges are read one after another, behind these images
unfoldable pub images_from : GivenRows → List TableTree → Level → List Rows → List TableRead → Dialog (Result (List Rows) Refusal)
images_from given shapes level images [] = over (Ok images)
images_from given shapes level images (read ∷ reads) = do
  rows ← reads_table given shapes level read
  with_room Memory (images_from given shapes level (images ++ rows ∷ []) reads)

-- the images that a statement is answered or planned on, with these variables
unfoldable pub images_of : GivenRows → List TableTree → Level → List Value → Bound → Dialog (Result (List Rows) Refusal)
images_of given shapes level vars of = with_room Memory (images_from given shapes level [] (reads_of vars shapes of))

-- ---- whether anything is asked

-- the tables of what is read for a statement, in the same order
abbrev pub inner_tables : List InnerQuery → List TableName
inner_tables inner = flat_map (λ of. tables_read (out-InnerQuery of).query) inner

abbrev pub rows_tables : BoundRows → List TableName
rows_tables (rows.Values values inner) = inner_tables inner
rows_tables (rows.Query query) = tables_read query

abbrev pub write_tables : BoundWrite → List TableName
write_tables (write.Insert table places given) = rows_tables given
write_tables (write.Update table sets filter inner) = inner_tables inner ++ table ∷ []
write_tables (write.Delete table filter inner) = inner_tables inner ++ table ∷ []

abbrev pub tables_of_reads : Bound → List TableName
tables_of_reads (bound.Query query) = tables_read query
tables_of_reads (bound.Assign query places) = tables_read query
tables_of_reads (bound.Write of) = write_tables of
tables_of_reads bound.Plain = []

-- a table is fetched, and not given
abbrev pub is_fetched : GivenRows → TableName → Bool
is_fetched given table = not (is_some (given table))

-- a read is of one that is
abbrev pub is_read_fetched : GivenRows → TableRead → Bool
is_read_fetched given read = is_fetched given read.0.table

-- one of those that are read for a statement is
abbrev pub fetches_any : GivenRows → Bound → Bool
fetches_any given of = list_any (is_fetched given) (tables_of_reads of)
