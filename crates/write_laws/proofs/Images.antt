-- Images.
use Rattle.std.proofs.Common.{◌≡◌, ℕ, zero, suc, Bool, true, false, List, [], ◌∷◌, ◌++◌, Option, None, Some, Result, Ok, refl, sym, subst, ◌∙◌, append-nil, append_assoc}
use Rattle.std.specs.List.{AllByRecursion}
use Rattle.tsql_tree.specs.declared.definition.TableTree.{TableTree}
use Rattle.step_model.specs.declared.manner.Manner.{Manner}
use Rattle.step_model.specs.declared.op.Op.{Op}
use Rattle.step_model.specs.declared.op.Op.TheVariants.{Fetch}
use Rattle.step_model.specs.declared.range.Start.{Start}
use Rattle.step_model.specs.declared.range.Start.TheVariants.{Past}
use Rattle.step_model.specs.declared.reply.Reply.{Reply}
use Rattle.step_model.specs.declared.reply.Reply.TheVariants.{Row, Gone, End, Memory as NoMemory, TimedOut as Refuses, Victim as Falls}
use Rattle.step_model.specs.Database.{Database}
use Rattle.step_model.specs.Dialog.{Dialog, over, Held}
use Rattle.step_model.specs.Exchange.{Exchange}
use Rattle.step_model.specs.Fits.{AnswersIn}
use Rattle.step_model.specs.Ranges.{Keeps, Rows, range_limit, with_row}
use Rattle.constraint_check.specs.Laws.{KeysAreOne}
use Rattle.table_rows.specs.Rows.{shape_of}
use Rattle.constraint_check.proofs.Lists.{all_left, all_right}
use Rattle.dml_exec.specs.declared.refusal.Level.{Level}
use Rattle.dml_exec.specs.declared.refusal.Level.TheVariants.{Serializable}
use Rattle.dml_exec.specs.declared.refusal.Refusal.{Refusal}
use Rattle.dml_exec.specs.declared.refusal.Refusal.TheVariants.{Memory}
use Rattle.dml_exec.specs.Asking.{with_room}
use Rattle.dml_exec.specs.Reading.{GivenRows, TableRead, behind_gone, fetches, fits, from, images_from, images_of, is_one_key, is_short, key_width, part_of, read_by, reads_of, reads_on, reads_range, reads_table, rows_from, rows_in, table_fetch, unless_given}
use Rattle.write_laws.specs.Reading.{ImagesFetch, ImagesRead}
use Rattle.statement_paths.specs.Asked.{IsFetch}
use Rattle.write_laws.specs.Reads.{at_place, key_size, AreImages, HoldsIt, IfFetched, IsImageOf, KeysHave}
use Rattle.write_laws.proofs.Dialogs.{held_ok, held_room}
use Rattle.write_laws.proofs.Parts.{AsksOnly, all_asked, answers, asks_ok, asks_room, asks_room_if, one_place}
use Rattle.write_laws.proofs.Ranges.{in_fetches, read_in, told_one}

-- ---- what is asked

module _ (P : Op → Type 0) where
  read_by_asks : (width : ℕ) (keeps : Keeps) (so_far : Rows) (reply : Reply) → AsksOnly P (read_by width keeps so_far reply)
  read_by_asks width keeps so_far (Row key row at) = asks_room P Memory (over (Ok (with_row keeps so_far key row, Some (Past key)))) tt
  read_by_asks width keeps so_far (Gone key at) = asks_room_if P (is_short width key) Memory (over (Ok (so_far, Some (behind_gone width key)))) tt
  read_by_asks width keeps so_far (End at) = tt
  read_by_asks width keeps so_far NoMemory = tt
  read_by_asks width keeps so_far (Refuses holder held asked on) = tt
  read_by_asks width keeps so_far (Falls cycle) = tt
  read_by_asks width keeps so_far reply = tt

pub fetch_asks : (width : ℕ) (keeps : Keeps) (op : Op) (so_far : Rows) → AsksOnly IsFetch (fetches width keeps op so_far)
fetch_asks width keeps (Fetch table start stop hold part) so_far = (tt, read_by_asks IsFetch width keeps so_far)
fetch_asks width keeps op so_far = tt

pub from_asks : (width : ℕ) (keeps : Keeps) (left : ℕ) (op : Op) (so_far : Rows) → AsksOnly IsFetch (rows_from width keeps left op so_far)
unfolding rows_from
from_asks width keeps zero op so_far = tt
from_asks width keeps (suc left) op so_far =
    asks_ok IsFetch (fetches width keeps op so_far) (reads_on (λ more on. rows_from width keeps left (from on op) more)) (fetch_asks width keeps op so_far) (on_came (λ on more. from_asks width keeps left (from on op) more))
  where
    on_came : ((on : Start) (more : Rows) → AsksOnly IsFetch (rows_from width keeps left (from on op) more)) → (came : Rows × Option Start) → AsksOnly IsFetch (reads_on (λ more on. rows_from width keeps left (from on op) more) came)
    on_came rest (more, None) = tt
    on_came rest (more, Some on) = rest on more

-- of one whole key, too
pub in_asks : (shape : Option TableTree) (one : Bool) (op : Op) → AsksOnly IsFetch (rows_in shape 0 one op)
unfolding rows_in
in_asks shape true op = asks_ok IsFetch (fetches (key_width shape 0) (fits shape 0) op []) (λ came. over (Ok came.0)) (fetch_asks (key_width shape 0) (fits shape 0) op []) (λ came. tt)
in_asks shape false op = from_asks (key_width shape 0) (fits shape 0) range_limit op []

-- of what is given nothing is
unless_asks : (P : Op → Type 0) (given : Option Rows) (fetched : Dialog (Result Rows Refusal)) → AsksOnly P fetched → AsksOnly P (unless_given given fetched)
unless_asks P None fetched only = only
unless_asks P (Some rows) fetched only = asks_room P Memory (over (Ok rows)) tt

-- a range is read as one whole key
abbrev is_one : List TableTree → TableRead → Bool
is_one shapes read = is_one_key (key_width (shape_of read.0.table shapes) 0) read.0.start read.0.stop

table_asks : (given : GivenRows) (shapes : List TableTree) (level : Level) (read : TableRead) → AsksOnly IsFetch (reads_table given shapes level read)
unfolding reads_table
table_asks given shapes level read =
    unless_asks IsFetch (given read.0.table) (reads_range (shape_of read.0.table shapes) level read) (in_asks (shape_of read.0.table shapes) (is_one shapes read) (table_fetch level read))

from_images_asks : (given : GivenRows) (shapes : List TableTree) (level : Level) (reads : List TableRead) (images : List Rows) → AsksOnly IsFetch (images_from given shapes level images reads)
unfolding images_from
from_images_asks given shapes level [] images = tt
from_images_asks given shapes level (read ∷ reads) images =
    asks_ok IsFetch (reads_table given shapes level read) (λ rows. with_room Memory (images_from given shapes level (images ++ rows ∷ []) reads)) (table_asks given shapes level read)
    (λ rows. asks_room IsFetch Memory (images_from given shapes level (images ++ rows ∷ []) reads) (from_images_asks given shapes level reads (images ++ rows ∷ [])))

pub images_fetch : ImagesFetch
unfolding images_of
images_fetch manner given shapes level vars of part result held =
    all_asked IsFetch manner (images_of given shapes level vars of) part result (asks_room IsFetch Memory (images_from given shapes level [] (reads_of vars shapes of)) (from_images_asks given shapes level (reads_of vars shapes of) [])) held

-- ---- at the highest level

abbrev top : List TableTree → TableRead → Dialog (Result Rows Refusal)
top shapes read = reads_range (shape_of read.0.table shapes) Serializable read

table_top : (given : GivenRows) (shapes : List TableTree) (read : TableRead) → AsksOnly HoldsIt (reads_table given shapes Serializable read)
unfolding reads_table
table_top given shapes read = unless_asks HoldsIt (given read.0.table) (top shapes read) (in_fetches read.0.table read.0.stop (part_of read.1) (shape_of read.0.table shapes) 0 (is_one shapes read) read.0.start)

from_top : (given : GivenRows) (shapes : List TableTree) (reads : List TableRead) (images : List Rows) → AsksOnly HoldsIt (images_from given shapes Serializable images reads)
unfolding images_from
from_top given shapes [] images = tt
from_top given shapes (read ∷ reads) images =
    asks_ok HoldsIt (reads_table given shapes Serializable read) (λ rows. with_room Memory (images_from given shapes Serializable (images ++ rows ∷ []) reads)) (table_top given shapes read)
    (λ rows. asks_room HoldsIt Memory (images_from given shapes Serializable (images ++ rows ∷ []) reads) (from_top given shapes reads (images ++ rows ∷ [])))

module _ (db : Database) (one : KeysAreOne db) (manner : Manner) (given : GivenRows) (shapes : List TableTree) where
  abbrev Answered : List Exchange → Type 0
  Answered part = AllByRecursion (λ x. AnswersIn db x.op x.reply) part

  -- one of them
  image_read : (rows_given : Option Rows) (read : TableRead) (rows : Rows) (part : List Exchange) → IfFetched rows_given (KeysHave (key_size shapes read.0.table) db read.0.table) → Answered part
      → Held manner (unless_given rows_given (top shapes read)) part (Ok rows) → IsImageOf rows_given db shapes read.0 rows
  unfolding Held
  image_read None read rows part long answered held =
      read_in db one manner (shape_of read.0.table shapes) 0 (is_one shapes read) read.0 (part_of read.1) rows part answered held long (told_one (key_width (shape_of read.0.table shapes) 0) read.0.start read.0.stop)
  image_read (Some found) read rows part long answered held = let over_so = held_room manner Memory (over (Ok found)) part rows held in cc

  -- behind those that were read so far
  images_behind : (reads : List TableRead) (so_far images : List Rows) (part : List Exchange) → AllByRecursion (λ read. IfFetched (given read.0.table) (KeysHave (key_size shapes read.0.table) db read.0.table)) reads → Answered part
      → Held manner (images_from given shapes Serializable so_far reads) part (Ok images) → (rest : List Rows) × (images ≡ so_far ++ rest) × AreImages given db shapes reads rest
  unfolding Held images_from reads_table
  images_behind [] so_far images part long answered held = ([], (let is : images ≡ so_far = cc in is) ∙ sym (append-nil so_far), refl)
  images_behind (read ∷ reads) so_far images part long answered held =
      let h = held_ok manner (unless_given (given read.0.table) (top shapes read)) (λ rows. with_room Memory (images_from given shapes Serializable (so_far ++ rows ∷ []) reads)) part images held in
      let answered : Answered (h.first ++ h.second) = subst Answered h.parts answered in
      let here = image_read (given read.0.table) read h.came h.first long.0 (all_left (λ (x : Exchange). AnswersIn db x.op x.reply) h.first h.second answered) h.held in
      let more = images_behind reads (so_far ++ h.came ∷ []) images h.second long.1 (all_right (λ (x : Exchange). AnswersIn db x.op x.reply) h.first h.second answered)
      (held_room manner Memory (images_from given shapes Serializable (so_far ++ h.came ∷ []) reads) h.second images h.more) in
      (h.came ∷ more.0, more.1 ∙ append_assoc so_far (h.came ∷ []) more.0, (h.came, more.0, refl, here, more.2))

pub images_read : ImagesRead
unfolding images_of
images_read log mine before part later manner given shapes vars of images is holds held long =
    let reads = reads_of vars shapes of in
    let asked = held_room manner Memory (images_from given shapes Serializable [] reads) part images held in
    let came = images_behind (at_place log before later) (one_place log before later) manner given shapes reads [] images part long
    (answers log mine before part later is holds (all_asked HoldsIt manner (images_from given shapes Serializable [] reads) part (Ok images) (from_top given shapes reads []) asked)) asked in
    subst (AreImages given (at_place log before later) shapes reads) (sym came.1) came.2
