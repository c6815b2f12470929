-- The dialogs of reading tables and of writing changes fail by another error than one that is looked for.
use Rattle.std.proofs.Common.{refl, ℕ, zero, suc, ℤ, pos, List, [], ◌∷◌, ◌++◌, Option, Some, None, Bool, true, false, Result, Ok, Err, if◌then◌else◌}
use Rattle.lock_modes.specs.declared.KeyPart.TheVariants.{S, U}
use Rattle.value_types.specs.declared.table_name.TableName.{TableName}
use Rattle.value_types.specs.declared.value.Value.{Value}
use Rattle.tsql_tree.specs.declared.definition.TableTree.{TableTree}
use Rattle.bound_tree.specs.declared.write.Bound.{Bound}
use Rattle.table_rows.specs.Definitions.{is_objects, name_in}
use Rattle.table_rows.specs.Rows.{part_shape, shape_of}
use Rattle.step_model.specs.declared.change.Deed.{Deed}
use Rattle.step_model.specs.declared.change.Deed.TheVariants as deed
use Rattle.step_model.specs.declared.change.Planned.{Planned}
use Rattle.step_model.specs.declared.op.Hold.TheVariants as hold
use Rattle.step_model.specs.declared.op.Op.{Op}
use Rattle.step_model.specs.declared.op.Op.TheVariants as ops
use Rattle.step_model.specs.declared.range.KeyRange.{KeyRange}
use Rattle.step_model.specs.declared.range.Start.{Start}
use Rattle.step_model.specs.declared.range.Start.TheVariants.{At}
use Rattle.step_model.specs.declared.range.Stop.TheVariants.{Within}
use Rattle.step_model.specs.declared.reply.Reply.{Reply}
use Rattle.step_model.specs.declared.reply.Reply.TheVariants as replies
use Rattle.step_model.specs.Dialog as said
use Rattle.step_model.specs.Dialog.{Dialog, tries}
use Rattle.step_model.specs.Own.{is_own}
use Rattle.step_model.specs.Ranges.{Keeps, Rows, range_limit}
use Rattle.constraint_check.specs.declared.check_read.CheckRead.{CheckRead}
use Rattle.constraint_check.specs.Judged.{duplicate, judge}
use Rattle.constraint_check.specs.Reads.{reads_for}
use Rattle.dml_exec.specs.declared.refusal.Level.{Level}
use Rattle.dml_exec.specs.declared.refusal.Refusal.{Refusal}
use Rattle.dml_exec.specs.declared.refusal.Refusal.TheVariants.{Memory}
use Rattle.dml_exec.specs.declared.written.Attempt.{Attempt}
use Rattle.dml_exec.specs.declared.written.Written.{Written}
use Rattle.dml_exec.specs.declared.written.Written.TheVariants as written
use Rattle.dml_exec.specs.Asking.{with_room, with_room_if, ◌>>=◌}
use Rattle.dml_exec.specs.Reading.{GivenRows, TableRead, behind_gone, fetch_of, fetches, fits, from, images_from, images_of, is_one_key, is_short, key_width, read_by, reads_of, reads_on, reads_range, reads_table, rows_from, rows_in, table_fetch, unless_given}
use Rattle.dml_exec.specs.Planning.{as_found, is_asked}
use Rattle.dml_exec.specs.Writing.{asks_deed, asks_key, asks_keys, attempts, behind_keys, broken, broken_by, checks_all, checks_one, checks_range, done_by, ends, halted, marked, no_room, object_present, or_nameless, outcome, present, primary_name, row_told, rows_checked, told, where_done, works, writes_all, writes_one}
use Rattle.batch_meaning.specs.Asking.{number_of}
use Rattle.cause_laws.proofs.Usual.{UsualIf}
use Rattle.cause_laws.proofs.UsualChanges.{usual_judged}
use Rattle.cause_laws.proofs.Watch.{Guard, IsOther, Says}
use Rattle.cause_laws.proofs.Clean.{CleanDialog, FineOr, dialog_bind, dialog_room, dialog_then, usual_other}

module _ (error : Guard) where
  -- ---- reading

  -- why a reading goes no further is another error
  abbrev pub OtherRefusal : Refusal → Type 0
  OtherRefusal refusal = IsOther error (pos (number_of refusal))

  abbrev Reads : {A : Type 0} → Dialog (Result A Refusal) → Type 0
  Reads dialog = CleanDialog error (FineOr error OtherRefusal) dialog

  clean_read : (width : ℕ) (keeps : Keeps) (so_far : Rows) (reply : Reply) → Says error reply → Reads (read_by width keeps so_far reply)
  clean_read width keeps so_far (replies.Row key row at) says = dialog_room error OtherRefusal Memory (said.over (Ok _)) (λ other. other) tt
  clean_read width keeps so_far (replies.Gone key at) says = by_short (is_short width key)
    where
      by_short : (b : Bool) → Reads {A = Rows × Option Start} (with_room_if b Memory (said.over (Ok (so_far, Some (behind_gone width key)))))
      by_short true = dialog_room error OtherRefusal Memory (said.over (Ok (so_far, Some (behind_gone width key)))) (λ other. other) tt
      by_short false = tt
  clean_read width keeps so_far (replies.End at) says = tt
  clean_read width keeps so_far replies.Memory says = error.watch.memory says
  clean_read width keeps so_far (replies.TimedOut holder held wanted on) says = error.watch.timed holder held wanted on says
  clean_read width keeps so_far (replies.Victim cycle) says = error.watch.victim cycle says
  clean_read width keeps so_far reply says = tt

  clean_fetches : (width : ℕ) (keeps : Keeps) (op : Op) (so_far : Rows) → Reads (fetches width keeps op so_far)
  clean_fetches width keeps (ops.Fetch table start stop hold part) so_far = clean_read width keeps so_far
  clean_fetches width keeps op so_far = tt

  clean_rows : (width : ℕ) (keeps : Keeps) (left : ℕ) (fetch : Op) (so_far : Rows) → Reads (rows_from width keeps left fetch so_far)
  unfolding rows_from
  clean_rows width keeps zero fetch so_far = usual_other error (pos 49003) refl
  clean_rows width keeps (suc left) fetch so_far = dialog_bind error OtherRefusal (fetches width keeps fetch so_far) (reads_on (λ more start. rows_from width keeps left (from start fetch) more)) (clean_fetches width keeps fetch so_far)
      (λ came. by_came (λ more start. clean_rows width keeps left (from start fetch) more) came)
    where
      by_came : ((more : Rows) (start : Start) → Reads (rows_from width keeps left (from start fetch) more)) → (came : Rows × Option Start) → Reads (reads_on (λ more start. rows_from width keeps left (from start fetch) more) came)
      by_came next (more, None) = tt
      by_came next (more, Some start) = next more start

  clean_range : (shape : Option TableTree) (part : ℕ) (one : Bool) (fetch : Op) → Reads (rows_in shape part one fetch)
  unfolding rows_in
  clean_range shape part true fetch =
      dialog_bind error OtherRefusal (fetches (key_width shape part) (fits shape part) fetch []) (λ came. said.over (Ok came.0)) (clean_fetches (key_width shape part) (fits shape part) fetch []) (λ came. tt)
  clean_range shape part false fetch = clean_rows (key_width shape part) (fits shape part) range_limit fetch []

  module _ (given : GivenRows) (shapes : List TableTree) (level : Level) where
    clean_table : (read : TableRead) → Reads (reads_table given shapes level read)
    unfolding reads_table
    clean_table read = by_given (given read.0.table)
      where
        by_given : (found : Option Rows) → Reads (unless_given found (reads_range (shape_of read.0.table shapes) level read))
        by_given None = clean_range (shape_of read.0.table shapes) 0 (is_one_key (key_width (shape_of read.0.table shapes) 0) read.0.start read.0.stop) (table_fetch level read)
        by_given (Some rows) = dialog_room error OtherRefusal Memory (said.over (Ok rows)) (λ other. other) tt

    clean_from : (images : List Rows) (reads : List TableRead) → Reads (images_from given shapes level images reads)
    unfolding images_from
    clean_from images [] = tt
    clean_from images (read ∷ reads) = dialog_bind error OtherRefusal (reads_table given shapes level read) (λ rows. with_room Memory (images_from given shapes level (images ++ rows ∷ []) reads)) (clean_table read)
        (λ rows. dialog_room error OtherRefusal Memory (images_from given shapes level (images ++ rows ∷ []) reads) (λ other. other) (clean_from (images ++ rows ∷ []) reads))

    pub clean_images : (vars : List Value) (of : Bound) → Reads (images_of given shapes level vars of)
    unfolding images_of
    clean_images vars of = dialog_room error OtherRefusal Memory (images_from given shapes level [] (reads_of vars shapes of)) (λ other. other) (clean_from [] (reads_of vars shapes of))

  -- ---- writing

  -- What came of changes is another error, if it is one. Why they go no further is seen by what comes of it.
  abbrev pub OtherWritten : Result Written Refusal → Type 0
  OtherWritten (Ok (written.Done mark)) = Unit {0}
  OtherWritten (Ok (written.Refused number name)) = IsOther error number
  OtherWritten (Err refusal) = OtherRefusal refusal

  present_other : (shapes : List TableTree) (table : TableName) (key : List Value) → OtherWritten (outcome (present shapes table key))
  present_other shapes table key = by_objects (is_objects table.object)
    where
      by_objects : (b : Bool) → OtherWritten (outcome (if b then broken object_present (or_nameless (name_in key)) else broken duplicate (or_nameless (primary_name (shape_of table shapes)))))
      by_objects true = usual_other error (pos 2714) refl
      by_objects false = usual_other error (pos 2627) refl

  clean_by : (shapes : List TableTree) (change : Planned) (reply : Reply) → Says error reply → CleanDialog error (FineOr error (λ why. OtherWritten (outcome why))) (done_by shapes change reply)
  clean_by shapes change replies.Done says = tt
  clean_by shapes change replies.Exists says = by_own (is_own change)
    where
      by_own : (own : Bool) → CleanDialog error {A = Result (Unit {0}) _} (FineOr error (λ why. OtherWritten (outcome why))) (if own then with_room no_room (said.over (Err (present shapes change.table change.key))) else said.over (Ok tt))
      by_own true = dialog_room error (λ why. OtherWritten (outcome why)) no_room (said.over (Err (present shapes change.table change.key))) (λ other. other) (present_other shapes change.table change.key)
      by_own false = tt
  clean_by shapes change replies.Missing says = error.watch.missing says
  clean_by shapes change replies.Memory says = error.watch.memory says
  clean_by shapes change (replies.TimedOut holder held wanted on) says = error.watch.timed holder held wanted on says
  clean_by shapes change (replies.Victim cycle) says = error.watch.victim cycle says
  clean_by shapes change reply says = tt

  clean_tries : (op : Op) (quiet : said.IsQuiet op) → CleanDialog error (Says error) (tries op quiet said.over)
  unfolding tries
  clean_tries op quiet = by_room
    where
      by_room : (enough : Bool) → error.watch.May enough → CleanDialog error (Says error) (if enough then said.asks op quiet said.over else said.over replies.Memory)
      by_room true may = λ reply says. says
      by_room false may = error.watch.lacks may

  clean_deed : (table : TableName) (key : List Value) (of : Deed) → CleanDialog error (Says error) (asks_deed table key of)
  clean_deed table key deed.Erase = clean_tries (ops.Erase table key) tt
  clean_deed table key (deed.Replace row) = clean_tries (ops.Replace table key row) tt
  clean_deed table key (deed.Insert row) = clean_tries (ops.Insert table key row) tt

  clean_writes : (shapes : List TableTree) (changes : List Planned) → CleanDialog error (FineOr error (λ why. OtherWritten (outcome why))) (writes_all shapes changes)
  unfolding writes_all writes_one
  clean_writes shapes [] = tt
  clean_writes shapes (change ∷ changes) = dialog_bind error (λ why. OtherWritten (outcome why)) (writes_one shapes change) (λ done. writes_all shapes changes)
      (dialog_then error (Says error) (FineOr error (λ why. OtherWritten (outcome why))) (asks_deed change.table change.key change.deed) (done_by shapes change) (clean_deed change.table change.key change.deed) (clean_by shapes change))
      (λ done. clean_writes shapes changes)

  clean_checked : (shapes : List TableTree) (range : KeyRange) → CleanDialog error (FineOr error (λ why. OtherWritten (outcome why))) (rows_checked shapes range)
  unfolding rows_checked
  clean_checked shapes range = dialog_room error (λ why. OtherWritten (outcome why)) no_room _ (λ other. other)
      (dialog_then error (FineOr error OtherRefusal) (FineOr error (λ why. OtherWritten (outcome why))) (checks_range (part_shape range.table shapes) range) halted
      (clean_range (part_shape range.table shapes) range.table.part (is_one_key (key_width (part_shape range.table shapes) range.table.part) range.start range.stop) (fetch_of range hold.Range S)) by_came)
    where
      by_came : (came : Result Rows Refusal) → FineOr error OtherRefusal came → CleanDialog error (FineOr error (λ why. OtherWritten (outcome why))) (halted came)
      by_came (Ok rows) fine = tt
      by_came (Err refusal) fine = fine

  clean_broken : (read : CheckRead) (number : Option ℤ) → UsualIf number → CleanDialog error (FineOr error (λ why. OtherWritten (outcome why))) (broken_by read number)
  clean_broken read None usual = tt
  clean_broken read (Some number) usual = dialog_room error (λ why. OtherWritten (outcome why)) no_room (said.over (Err (broken number read.name))) (λ other. other) (usual_other error number usual)

  clean_checks : (shapes : List TableTree) (reads : List CheckRead) → CleanDialog error (FineOr error (λ why. OtherWritten (outcome why))) (checks_all shapes reads)
  unfolding checks_all checks_one
  clean_checks shapes [] = tt
  clean_checks shapes (read ∷ reads) = dialog_bind error (λ why. OtherWritten (outcome why)) (checks_one shapes read) (λ done. checks_all shapes reads)
      (dialog_bind error (λ why. OtherWritten (outcome why)) (rows_checked shapes read.range) (λ found. broken_by read (judge read found)) (clean_checked shapes read.range) (λ found. clean_broken read (judge read found) (usual_judged read found)))
      (λ done. clean_checks shapes reads)

  clean_told : (reply : Reply) → Says error reply → Reads (row_told reply)
  clean_told (replies.Row key row at) says = tt
  clean_told (replies.Gone key at) says = tt
  clean_told (replies.End at) says = tt
  clean_told replies.Memory says = error.watch.memory says
  clean_told (replies.TimedOut holder held wanted on) says = error.watch.timed holder held wanted on says
  clean_told (replies.Victim cycle) says = error.watch.victim cycle says
  clean_told reply says = tt

  clean_key : (table : TableName) (key : List Value) → Reads (asks_key table key)
  unfolding asks_key tries
  clean_key table key = by_room
    where
      by_room : (enough : Bool) → error.watch.May enough → Reads (if enough then said.asks (ops.Fetch table (At key) (Within key) hold.Range U) tt row_told else row_told replies.Memory)
      by_room true may = clean_told
      by_room false may = clean_told replies.Memory (error.watch.lacks may)

  clean_keys : (changes : List Planned) (so_far : List Bool) → Reads (asks_keys changes so_far)
  unfolding asks_keys
  clean_keys [] so_far = tt
  clean_keys (change ∷ changes) so_far = by_asked (is_asked change) (clean_keys changes)
    where
      by_asked : (asked : Bool) → ((so_far : List Bool) → Reads (asks_keys changes so_far))
          → Reads (if asked then (asks_key change.table change.key >>= λ there. with_room Memory (asks_keys changes (so_far ++ there ∷ []))) else asks_keys changes so_far)
      by_asked true rest = dialog_bind error OtherRefusal (asks_key change.table change.key) (λ there. with_room Memory (asks_keys changes (so_far ++ there ∷ []))) (clean_key change.table change.key)
          (λ there. dialog_room error OtherRefusal Memory (asks_keys changes (so_far ++ there ∷ [])) (λ other. other) (rest (so_far ++ there ∷ [])))
      by_asked false rest = rest so_far

  clean_works : (shapes : List TableTree) (changes : List Planned) (found : List Bool) → CleanDialog error (FineOr error (λ why. OtherWritten (outcome why))) (works shapes changes found)
  unfolding works
  clean_works shapes changes found = dialog_bind error (λ why. OtherWritten (outcome why)) (writes_all shapes (as_found changes found)) (λ done. with_room no_room (checks_all shapes (reads_for changes shapes))) (clean_writes shapes (as_found changes found))
      (λ done. dialog_room error (λ why. OtherWritten (outcome why)) no_room (checks_all shapes (reads_for changes shapes)) (λ other. other) (clean_checks shapes (reads_for changes shapes)))

  abbrev pub OtherAttempt : Attempt → Type 0
  OtherAttempt attempt = OtherWritten attempt.came

  clean_ends : (mark : ℕ) (came : _) → FineOr error (λ why. OtherWritten (outcome why)) came → CleanDialog error OtherAttempt (ends mark came)
  clean_ends mark (Ok done) fine = tt
  clean_ends mark (Err why) fine = λ reply says. by_reply reply
    where
      by_reply : (reply : Reply) → CleanDialog error OtherAttempt (where_done (said.over (told (Some mark) (outcome why))) reply)
      by_reply replies.Done = fine
      by_reply reply = tt

  pub clean_attempts : (shapes : List TableTree) (changes : List Planned) → CleanDialog error OtherAttempt (attempts shapes changes)
  unfolding attempts
  clean_attempts shapes changes = dialog_then error (FineOr error OtherRefusal) OtherAttempt (asks_keys changes []) (behind_keys shapes changes) (clean_keys changes []) by_came
    where
      by_reply : (found : List Bool) (reply : Reply) → Says error reply → CleanDialog error OtherAttempt (marked shapes changes found reply)
      by_reply found (replies.Marked mark) says = dialog_then error (FineOr error (λ why. OtherWritten (outcome why))) OtherAttempt (works shapes changes found) (ends mark) (clean_works shapes changes found) (clean_ends mark)
      by_reply found replies.Memory says = error.watch.memory says
      by_reply found reply says = tt

      by_came : (came : Result (List Bool) Refusal) → FineOr error OtherRefusal came → CleanDialog error OtherAttempt (behind_keys shapes changes came)
      by_came (Ok found) fine = λ reply says. by_reply found reply says
      by_came (Err refusal) fine = fine
