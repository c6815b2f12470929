-- Which operations the dialogs of a statement ask: those of its reads fetch, those of a write ask for index rows, and then go on, until it is taken back.
use Rattle.std.proofs.Common.{ℕ, zero, suc, ℤ, Bool, true, false, if◌then◌else◌, List, [], ◌∷◌, ◌++◌, Option, None, Some, Result, Ok, Err}
use Rattle.value_types.specs.declared.table_name.TableName.{TableName}
use Rattle.value_types.specs.declared.value.Value.{Value}
use Rattle.lock_modes.specs.declared.KeyPart.TheVariants.{S, U}
use Rattle.tsql_tree.specs.declared.definition.TableTree.{TableTree}
use Rattle.bound_tree.specs.declared.write.Bound.{Bound}
use Rattle.step_model.specs.declared.change.Deed.{Deed}
use Rattle.step_model.specs.declared.change.Deed.TheVariants as deed
use Rattle.step_model.specs.declared.change.Planned.{Planned}
use Rattle.step_model.specs.declared.op.Hold.TheVariants as hold
use Rattle.step_model.specs.declared.op.Op.{Op}
use Rattle.step_model.specs.declared.op.Op.TheVariants as ops
use Rattle.step_model.specs.declared.range.KeyRange.{KeyRange}
use Rattle.step_model.specs.declared.range.Start.{Start}
use Rattle.step_model.specs.declared.range.Start.TheVariants.{At}
use Rattle.step_model.specs.declared.range.Stop.TheVariants.{Within}
use Rattle.step_model.specs.declared.reply.Reply.{Reply}
use Rattle.step_model.specs.declared.reply.Reply.TheVariants as replies
use Rattle.step_model.specs.Dialog as said
use Rattle.step_model.specs.Dialog.{Dialog}
use Rattle.step_model.specs.Own.{is_own}
use Rattle.step_model.specs.Ranges.{Keeps, Rows, range_limit}
use Rattle.constraint_check.specs.declared.check_read.CheckRead.{CheckRead}
use Rattle.constraint_check.specs.Judged.{judge}
use Rattle.table_rows.specs.Rows.{part_shape, shape_of}
use Rattle.constraint_check.specs.Reads.{reads_for}
use Rattle.dml_exec.specs.declared.refusal.Level.{Level}
use Rattle.dml_exec.specs.declared.refusal.Refusal.{Refusal}
use Rattle.dml_exec.specs.declared.refusal.Refusal.TheVariants as refusal
use Rattle.dml_exec.specs.Asking.{on_ok, with_room, with_room_if, ◌>>=◌}
use Rattle.dml_exec.specs.Planning.{as_found, is_asked}
use Rattle.dml_exec.specs.Reading.{GivenRows, TableRead, fetch_of, fetches, fits, from, images_from, images_of, is_one_key, is_short, key_width, read_by, reads_of, reads_on, reads_range, reads_table, rows_from, rows_in, table_fetch, unless_given}
use Rattle.dml_exec.specs.Writing.{asks_deed, asks_key, asks_keys, broken_by, checks_all, checks_one, checks_range, done_by, halted, no_room, present, row_told, rows_checked, works, writes_all, writes_one}
use Rattle.statement_paths.specs.Asked.{IsFetch}
use Rattle.statement_paths.specs.Paths.{IsForward}
use Rattle.statement_paths.proofs.Only.{Says, says_then}

-- ---- parts of a dialog

module _ (Ops : Op → Type 0) where
  says_either : {A : Type 0} (first other : Dialog A) → Says Ops first → Says Ops other → (enough : Bool) → Says Ops (if enough then first else other)
  says_either first other one two true = one
  says_either first other one two false = two

  pub says_room : {A E : Type 0} (why : E) (dialog : Dialog (Result A E)) → Says Ops dialog → Says Ops (with_room why dialog)
  says_room why dialog says = says_either dialog (said.over (Err why)) says tt

  says_room_if : {A E : Type 0} (wants : Bool) (why : E) (dialog : Dialog (Result A E)) → Says Ops dialog → Says Ops (with_room_if wants why dialog)
  says_room_if true why dialog says = says_room why dialog says
  says_room_if false why dialog says = says

  -- behind a part that may fail
  says_on : {A B E : Type 0} (go : A → Dialog (Result B E)) → ((a : A) → Says Ops (go a)) → (came : Result A E) → Says Ops (on_ok go came)
  says_on go says (Ok a) = says a
  says_on go says (Err e) = tt

  -- ---- reads

  module _ (fetching : (op : Op) → IsFetch op → Ops op) where
    says_reply : (width : ℕ) (keeps : Keeps) (so_far : Rows) (reply : Reply) → Says Ops (read_by width keeps so_far reply)
    says_reply width keeps so_far (replies.Row key row at) = says_room refusal.Memory _ tt
    says_reply width keeps so_far (replies.Gone key at) = says_room_if (is_short width key) refusal.Memory _ tt
    says_reply width keeps so_far reply = tt

    says_fetch : (width : ℕ) (keeps : Keeps) (op : Op) (so_far : Rows) → Says Ops (fetches width keeps op so_far)
    says_fetch width keeps (ops.Fetch table start stop hold part) so_far = (fetching (ops.Fetch table start stop hold part) tt, says_reply width keeps so_far)
    says_fetch width keeps op so_far = tt

    behind_range : (width : ℕ) (keeps : Keeps) (left : ℕ) (op : Op) → ((more : Rows) (start : Start) → Says Ops (rows_from width keeps left (from start op) more))
        → (came : Result (Rows × Option Start) Refusal) → Says Ops (on_ok (reads_on (λ more start. rows_from width keeps left (from start op) more)) came)
    behind_range width keeps left op says (Err why) = tt
    behind_range width keeps left op says (Ok (more, None)) = tt
    behind_range width keeps left op says (Ok (more, Some start)) = says more start

    says_range : (width : ℕ) (keeps : Keeps) (left : ℕ) (op : Op) (so_far : Rows) → Says Ops (rows_from width keeps left op so_far)
    unfolding rows_from
    says_range width keeps zero op so_far = tt
    says_range width keeps (suc left) op so_far =
        says_then Ops (fetches width keeps op so_far) (on_ok (reads_on (λ more start. rows_from width keeps left (from start op) more))) (says_fetch width keeps op so_far)
        (behind_range width keeps left op (λ more start. says_range width keeps left (from start op) more))

    says_rows : (shape : Option TableTree) (part : ℕ) (one : Bool) (op : Op) → Says Ops (rows_in shape part one op)
    unfolding rows_in
    says_rows shape part true op = says_then Ops (fetches (key_width shape part) (fits shape part) op []) (on_ok (λ came. said.over (Ok came.0))) (says_fetch (key_width shape part) (fits shape part) op []) (says_on (λ came. said.over (Ok came.0)) (λ came. tt))
    says_rows shape part false op = says_range (key_width shape part) (fits shape part) range_limit op []

    -- what is given is not fetched
    says_given : (rows : Option Rows) (fetched : Dialog (Result Rows Refusal)) → Says Ops fetched → Says Ops (unless_given rows fetched)
    says_given None fetched says = says
    says_given (Some rows) fetched says = says_room refusal.Memory _ tt

    says_table : (given : GivenRows) (shapes : List TableTree) (level : Level) (read : TableRead) → Says Ops (reads_table given shapes level read)
    unfolding reads_table
    says_table given shapes level read = says_given (given read.0.table) (reads_range (shape_of read.0.table shapes) level read)
        (says_rows (shape_of read.0.table shapes) 0 (is_one_key (key_width (shape_of read.0.table shapes) 0) read.0.start read.0.stop) (table_fetch level read))

    says_images : (given : GivenRows) (shapes : List TableTree) (level : Level) (images : List Rows) (reads : List TableRead) → Says Ops (images_from given shapes level images reads)
    unfolding images_from
    says_images given shapes level images [] = tt
    says_images given shapes level images (read ∷ reads) =
        says_then Ops (reads_table given shapes level read) (on_ok (λ rows. with_room refusal.Memory (images_from given shapes level (images ++ rows ∷ []) reads))) (says_table given shapes level read)
        (says_on (λ rows. with_room refusal.Memory (images_from given shapes level (images ++ rows ∷ []) reads)) (λ rows. says_room refusal.Memory _ (says_images given shapes level (images ++ rows ∷ []) reads)))

    pub images_say : (given : GivenRows) (shapes : List TableTree) (level : Level) (vars : List Value) (of : Bound) → Says Ops (images_of given shapes level vars of)
    unfolding images_of
    images_say given shapes level vars of = says_room refusal.Memory _ (says_images given shapes level [] (reads_of vars shapes of))

-- ---- the changes of a write, and what checks them

pub fetch_forward : (op : Op) → IsFetch op → IsForward op
fetch_forward (ops.Fetch table start stop hold part) is = tt
fetch_forward op is = absurd is

deed_says : (table : TableName) (key : List Value) (deed : Deed) → Says IsForward (asks_deed table key deed)
unfolding said.tries
deed_says table key deed.Erase = says_either IsForward (said.asks (ops.Erase table key) tt said.over) (said.over replies.Memory) (tt, λ reply. tt) tt
deed_says table key (deed.Replace row) = says_either IsForward (said.asks (ops.Replace table key row) tt said.over) (said.over replies.Memory) (tt, λ reply. tt) tt
deed_says table key (deed.Insert row) = says_either IsForward (said.asks (ops.Insert table key row) tt said.over) (said.over replies.Memory) (tt, λ reply. tt) tt

done_says : (shapes : List TableTree) (change : Planned) (reply : Reply) → Says IsForward (done_by shapes change reply)
done_says shapes change replies.Exists = by_own (is_own change)
  where
    by_own : (own : Bool) → Says IsForward {A = Result (Unit {0}) _} (if own then with_room no_room (said.over (Err (present shapes change.table change.key))) else said.over (Ok tt))
    by_own true = says_room IsForward no_room _ tt
    by_own false = tt
done_says shapes change reply = tt

write_says : (shapes : List TableTree) (change : Planned) → Says IsForward (writes_one shapes change)
unfolding writes_one
write_says shapes change = says_then IsForward (asks_deed change.table change.key change.deed) (done_by shapes change) (deed_says change.table change.key change.deed) (done_says shapes change)

pub writes_say : (shapes : List TableTree) (changes : List Planned) → Says IsForward (writes_all shapes changes)
unfolding writes_all
writes_say shapes [] = tt
writes_say shapes (change ∷ changes) = says_then IsForward (writes_one shapes change) (on_ok (λ done. writes_all shapes changes)) (write_says shapes change) (says_on IsForward (λ done. writes_all shapes changes) (λ done. writes_say shapes changes))

halted_says : (came : Result Rows Refusal) → Says IsForward (halted came)
halted_says (Ok rows) = tt
halted_says (Err why) = tt

checked_says : (shapes : List TableTree) (range : KeyRange) → Says IsForward (rows_checked shapes range)
unfolding rows_checked
checked_says shapes range = says_room IsForward no_room _ (says_then IsForward (checks_range (part_shape range.table shapes) range) halted
    (says_rows IsForward fetch_forward (part_shape range.table shapes) range.table.part (is_one_key (key_width (part_shape range.table shapes) range.table.part) range.start range.stop) (fetch_of range hold.Range S)) halted_says)

broken_says : (read : CheckRead) (judged : Option ℤ) → Says IsForward (broken_by read judged)
broken_says read None = tt
broken_says read (Some number) = says_room IsForward no_room _ tt

check_says : (shapes : List TableTree) (read : CheckRead) → Says IsForward (checks_one shapes read)
unfolding checks_one
check_says shapes read = says_then IsForward (rows_checked shapes read.range) (on_ok (λ found. broken_by read (judge read found))) (checked_says shapes read.range) (says_on IsForward (λ found. broken_by read (judge read found)) (λ found. broken_says read (judge read found)))

pub checks_say : (shapes : List TableTree) (reads : List CheckRead) → Says IsForward (checks_all shapes reads)
unfolding checks_all
checks_say shapes [] = tt
checks_say shapes (read ∷ reads) = says_then IsForward (checks_one shapes read) (on_ok (λ done. checks_all shapes reads)) (check_says shapes read) (says_on IsForward (λ done. checks_all shapes reads) (λ done. checks_say shapes reads))

pub works_say : (shapes : List TableTree) (changes : List Planned) (found : List Bool) → Says IsForward (works shapes changes found)
unfolding works
works_say shapes changes found = says_then IsForward (writes_all shapes (as_found changes found)) (on_ok (λ done. with_room no_room (checks_all shapes (reads_for changes shapes)))) (writes_say shapes (as_found changes found))
    (says_on IsForward (λ done. with_room no_room (checks_all shapes (reads_for changes shapes))) (λ done. says_room IsForward no_room _ (checks_say shapes (reads_for changes shapes))))

-- ---- index rows that are asked for

row_says : (reply : Reply) → Says IsFetch (row_told reply)
row_says (replies.Row key row at) = tt
row_says (replies.Gone key at) = tt
row_says (replies.End at) = tt
row_says replies.Memory = tt
row_says (replies.TimedOut holder held asked on) = tt
row_says (replies.Victim cycle) = tt
row_says reply = tt

key_says : (table : TableName) (key : List Value) → Says IsFetch (asks_key table key)
unfolding asks_key said.tries
key_says table key = says_either IsFetch (said.asks (ops.Fetch table (At key) (Within key) hold.Range U) tt row_told) (row_told replies.Memory) (tt, row_says) tt

pub keys_say : (changes : List Planned) (so_far : List Bool) → Says IsFetch (asks_keys changes so_far)
unfolding asks_keys
keys_say [] so_far = tt
keys_say (change ∷ changes) so_far = by_asked (is_asked change) (keys_say changes)
  where
    by_asked : (asked : Bool) → ((so_far : List Bool) → Says IsFetch (asks_keys changes so_far))
        → Says IsFetch (if asked then (asks_key change.table change.key >>= λ there. with_room refusal.Memory (asks_keys changes (so_far ++ there ∷ []))) else asks_keys changes so_far)
    by_asked true rest =
        says_then IsFetch (asks_key change.table change.key) (on_ok (λ there. with_room refusal.Memory (asks_keys changes (so_far ++ there ∷ [])))) (key_says change.table change.key)
        (says_on IsFetch (λ there. with_room refusal.Memory (asks_keys changes (so_far ++ there ∷ []))) (λ there. says_room IsFetch refusal.Memory (asks_keys changes (so_far ++ there ∷ [])) (rest (so_far ++ there ∷ []))))
    by_asked false rest = rest so_far
