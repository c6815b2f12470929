-- Images that were read: each has rows of its table alone.
use Rattle.std.proofs.Common.{◌≡◌, ℕ, zero, suc, if◌then◌else◌, Bool, true, false, List, [], ◌∷◌, ◌++◌, Option, None, Some, Result, Ok, Err, refl, sym, ap, ◌∙◌, subst, append_assoc, append-nil}
use Rattle.std.proofs.lemmas.Bool.{and_parts}
use Rattle.std.proofs.lemmas.List.Elements.{All-append, All-cons, All-nil}
use Rattle.std.specs.Prelude.{IsTrue}
use Rattle.value_types.specs.declared.table_name.TableName.{TableName}
use Rattle.value_types.specs.declared.value.Value.{Value}
use Rattle.tsql_tree.specs.declared.definition.TableTree.{TableTree}
use Rattle.bound_tree.specs.declared.write.Bound.{Bound}
use Rattle.table_rows.specs.Rows.{has_columns, key_of, row_fits, same_key, shape_of}
use Rattle.step_model.specs.declared.manner.Manner.{Manner}
use Rattle.step_model.specs.declared.op.Op.{Op}
use Rattle.step_model.specs.declared.op.Op.TheVariants.{Fetch}
use Rattle.step_model.specs.declared.range.Start.{Start}
use Rattle.step_model.specs.declared.range.Start.TheVariants.{Past}
use Rattle.step_model.specs.declared.reply.Reply.{Reply}
use Rattle.step_model.specs.declared.reply.Reply.TheVariants as replies
use Rattle.step_model.specs.Dialog.{Dialog, over, asks, room, never, ◌then◌, Held, Asks}
use Rattle.step_model.specs.Exchange.{Exchange}
use Rattle.step_model.specs.Port.{PortPast}
use Rattle.step_model.specs.Ranges.{Keeps, Rows, range_limit, with_row}
use Rattle.dml_exec.specs.declared.refusal.Level.{Level}
use Rattle.dml_exec.specs.declared.refusal.Refusal.{Refusal}
use Rattle.dml_exec.specs.declared.refusal.Refusal.TheVariants.{Memory}
use Rattle.dml_exec.specs.Asking.{on_ok, with_room, with_room_if}
use Rattle.dml_exec.specs.Reading.{GivenRows, TableRead, given_of, behind_gone, fetches, fits, from, images_from, images_of, is_one_key, is_short, key_width, read_by, reads_of, reads_on, reads_table, rows_from, rows_in, table_fetch, tables_of_reads}
use Rattle.dml_exec.proofs.ReadTables.{tables_of, tables_of_reads_are}
use Rattle.statement_exec.specs.Selected.{AreKept, ImagesFit}

-- nothing is given
abbrev none_known : GivenRows
none_known = given_of None

-- ---- dialogs, by what they come to

-- it may come to this
abbrev Comes : {A : Type 0} → Manner → Dialog A → A → Type 0
Comes manner dialog a = (exchanges : List Exchange) × Held manner dialog exchanges a

-- what came first, and what came behind it
record Behind {A B : Type 0} (manner : Manner) (dialog : Dialog A) (go : A → Dialog B) (b : B) : Type 0 where
  first : A
  came : Comes manner dialog first
  more : Comes manner (go first) b

behind : {A B : Type 0} (manner : Manner) (dialog : Dialog A) (go : A → Dialog B) (exchanges : List Exchange) (b : B) → Held manner (dialog then go) exchanges b → Behind manner dialog go b
unfolding Held ◌then◌
behind manner (over a) go exchanges b held = record { first = a; came = ([], (refl, refl)); more = (exchanges, held) }
behind manner (asks op quiet next) go [] b held = absurd held
behind manner (asks op quiet next) go (x ∷ later) b held =
    let rest = behind manner (next x.reply) go later b held.3 in record { first = rest.first; came = (x ∷ rest.came.0, (held.0, held.1, held.2, rest.came.1)); more = rest.more }
behind manner (room next) go exchanges b held =
    let rest = behind manner (next held.0) go exchanges b held.1 in record { first = rest.first; came = (rest.came.0, (held.0, rest.came.1)); more = rest.more }
behind manner never go exchanges b held = absurd held

-- what went well did not fail
no_failure : {A E B : Type 0} {a : A} {e : E} → ◌≡◌ {A = Result A E} (Ok a) (Err e) → B
no_failure is = absurd cc

-- ---- the rows of a range

-- these rows so far, and where to go on, or nothing
abbrev came_to : Rows → Option Start → Result (Rows × Option Start) Refusal
came_to rows next = Ok (rows, next)

abbrev rows_so_far : Result (Rows × Option Start) Refusal → Rows
rows_so_far (Ok came) = came.0
rows_so_far (Err refusal) = []

abbrev rows_or_none : Result Rows Refusal → Rows
rows_or_none (Ok rows) = rows
rows_or_none (Err refusal) = []

-- what holds of the rows so far, and stays with each that is kept, holds of all
module _ (manner : Manner) (width : ℕ) (keeps : Keeps) (P : Rows → Type 0) (stays : (rows : Rows) (key row : List Value) → P rows → P (with_row keeps rows key row)) where
  row_added : (so_far more : Rows) (key row : List Value) (next : Option Start) (enough : Bool) (exchanges : List Exchange) → P so_far
      → Held manner (if enough then over (came_to (with_row keeps so_far key row) (Some (Past key))) else over (Err Memory)) exchanges (came_to more next) → P more
  unfolding Held
  row_added so_far more key row next true exchanges holds held = subst P (sym (ap rows_so_far held.1)) (stays so_far key row holds)
  row_added so_far more key row next false exchanges holds held = no_failure held.1

  none_added : (so_far more : Rows) (start : Start) (next : Option Start) (wants : Bool) (exchanges : List Exchange) → P so_far
      → Held manner (with_room_if wants Memory (over (came_to so_far (Some start)))) exchanges (came_to more next) → P more
  unfolding Held
  none_added so_far more start next true exchanges holds held = enough_so held.0 held.1
    where
      enough_so : (enough : Bool) → Held manner (if enough then over (came_to so_far (Some start)) else over (Err Memory)) exchanges (came_to more next) → P more
      enough_so true went = subst P (sym (ap rows_so_far went.1)) holds
      enough_so false went = no_failure went.1
  none_added so_far more start next false exchanges holds held = subst P (sym (ap rows_so_far held.1)) holds

  reply_keeps : (so_far more : Rows) (next : Option Start) (reply : Reply) (exchanges : List Exchange) → P so_far → Held manner (read_by width keeps so_far reply) exchanges (came_to more next) → P more
  unfolding Held
  reply_keeps so_far more next (replies.Row key row at) exchanges holds held = row_added so_far more key row next held.0 exchanges holds held.1
  reply_keeps so_far more next (replies.Gone key at) exchanges holds held = none_added so_far more (behind_gone width key) next (is_short width key) exchanges holds held
  reply_keeps so_far more next (replies.End at) exchanges holds held = subst P (sym (ap rows_so_far held.1)) holds
  reply_keeps so_far more next replies.Memory exchanges holds held = no_failure held.1
  reply_keeps so_far more next (replies.TimedOut holder kind asked on) exchanges holds held = no_failure held.1
  reply_keeps so_far more next (replies.Victim cycle) exchanges holds held = no_failure held.1
  reply_keeps so_far more next reply exchanges holds held = absurd held

  fetch_keeps : (op : Op) (so_far more : Rows) (next : Option Start) (exchanges : List Exchange) → P so_far → Held manner (fetches width keeps op so_far) exchanges (came_to more next) → P more
  unfolding Held
  fetch_keeps (Fetch table start stop hold part) so_far more next [] holds held = absurd held
  fetch_keeps (Fetch table start stop hold part) so_far more next (x ∷ later) holds held = reply_keeps so_far more next x.reply later holds held.3
  fetch_keeps op so_far more next exchanges holds held = absurd held

  rest_keeps : (op : Op) (so_far rows : Rows) (next : Start → Rows → Dialog (Result Rows Refusal)) → P so_far
      → ((start : Start) (more : Rows) (exchanges : List Exchange) → P more → Held manner (next start more) exchanges (Ok rows) → P rows)
      → (first : Result (Rows × Option Start) Refusal) → Comes manner (fetches width keeps op so_far) first → Comes manner (on_ok (reads_on (λ more start. next start more)) first) (Ok rows) → P rows
  unfolding Held
  rest_keeps op so_far rows next holds goes (Err refusal) came rest = no_failure rest.1.1
  rest_keeps op so_far rows next holds goes (Ok (more, None)) came rest = subst P (sym (ap rows_or_none rest.1.1)) (fetch_keeps op so_far more None came.0 holds came.1)
  rest_keeps op so_far rows next holds goes (Ok (more, Some start)) came rest = goes start more rest.0 (fetch_keeps op so_far more (Some start) came.0 holds came.1) rest.1

  range_keeps : (left : ℕ) (op : Op) (so_far rows : Rows) (exchanges : List Exchange) → P so_far → Held manner (rows_from width keeps left op so_far) exchanges (Ok rows) → P rows
  unfolding rows_from Held
  range_keeps zero op so_far rows exchanges holds held = no_failure held.1
  range_keeps (suc left) op so_far rows exchanges holds held =
      let b = behind manner (fetches width keeps op so_far) (on_ok (reads_on (λ more start. rows_from width keeps left (from start op) more))) exchanges (Ok rows) held in
      rest_keeps op so_far rows (λ start more. rows_from width keeps left (from start op) more) holds (λ start more later kept went. range_keeps left (from start op) more rows later kept went) b.first b.came b.more

-- ---- the rows of a table

row_kept : (shape : TableTree) (rows : Rows) (key row : List Value) (test : Bool) → row_fits shape 0 key row ≡ test → AreKept (Some shape) rows → AreKept (Some shape) (if test then rows ++ row ∷ [] else rows)
row_kept shape rows key row true fit kept =
    let parts = and_parts (has_columns shape.columns row) (same_key (key_of shape row) key) fit in
    All-append (λ r. IsTrue (has_columns shape.columns r)) rows (row ∷ []) kept (All-cons (λ r. IsTrue (has_columns shape.columns r)) row [] parts.0 (All-nil (λ r. IsTrue (has_columns shape.columns r))))
row_kept shape rows key row false fit kept = kept

kept_stays : (shape : Option TableTree) (rows : Rows) (key row : List Value) → AreKept shape rows → AreKept shape (with_row (fits shape 0) rows key row)
kept_stays None rows key row kept = kept
kept_stays (Some shape) rows key row kept = row_kept shape rows key row (row_fits shape 0 key row) refl kept

none_kept : (shape : Option TableTree) → AreKept shape []
none_kept None = refl
none_kept (Some shape) = All-nil (λ row. IsTrue (has_columns shape.columns row))

one_kept : (manner : Manner) (shape : Option TableTree) (op : Op) (rows : Rows) (first : Result (Rows × Option Start) Refusal) → Comes manner (fetches (key_width shape 0) (fits shape 0) op []) first
    → Comes manner (on_ok (λ (came : Rows × Option Start). over (Ok came.0)) first) (Ok rows) → AreKept shape rows
unfolding Held
one_kept manner shape op rows (Err refusal) came rest = no_failure rest.1.1
one_kept manner shape op rows (Ok (more, next)) came rest =
    subst (AreKept shape) (sym (ap rows_or_none rest.1.1)) (fetch_keeps manner (key_width shape 0) (fits shape 0) (AreKept shape) (kept_stays shape) op [] more next came.0 (none_kept shape) came.1)

-- of one whole key, and of a range
in_kept : (manner : Manner) (shape : Option TableTree) (one : Bool) (op : Op) (rows : Rows) (exchanges : List Exchange) → Held manner (rows_in shape 0 one op) exchanges (Ok rows) → AreKept shape rows
unfolding rows_in
in_kept manner shape true op rows exchanges held =
    let b = behind manner (fetches (key_width shape 0) (fits shape 0) op []) (on_ok (λ (came : Rows × Option Start). over (Ok came.0))) exchanges (Ok rows) held in one_kept manner shape op rows b.first b.came b.more
in_kept manner shape false op rows exchanges held = range_keeps manner (key_width shape 0) (fits shape 0) (AreKept shape) (kept_stays shape) range_limit op [] rows exchanges (none_kept shape) held

table_kept : (manner : Manner) (shapes : List TableTree) (level : Level) (read : TableRead) (rows : Rows) → Comes manner (reads_table none_known shapes level read) (Ok rows) → AreKept (shape_of read.0.table shapes) rows
unfolding reads_table
table_kept manner shapes level read rows came =
    let shape = shape_of read.0.table shapes in
    in_kept manner shape (is_one_key (key_width shape 0) read.0.start read.0.stop) (table_fetch level read) rows came.0 came.1

-- ---- the images of a statement

-- these images are those and what was read behind them, which fits
record AreMore (shapes : List TableTree) (reads : List TableRead) (images all : List Rows) : Type 0 where
  rest : List Rows
  is : all ≡ images ++ rest
  fit : ImagesFit shapes (tables_of reads) rest

abbrev images_or_none : Result (List Rows) Refusal → List Rows
images_or_none (Ok images) = images
images_or_none (Err refusal) = []

module _ (manner : Manner) (shapes : List TableTree) (level : Level) where
  image_added : (images all : List Rows) (read : TableRead) (reads : List TableRead) (rows : Rows) → AreKept (shape_of read.0.table shapes) rows
      → ((exchanges : List Exchange) → Held manner (images_from none_known shapes level (images ++ rows ∷ []) reads) exchanges (Ok all) → AreMore shapes reads (images ++ rows ∷ []) all)
      → (enough : Bool) (exchanges : List Exchange) → Held manner (if enough then images_from none_known shapes level (images ++ rows ∷ []) reads else over (Err Memory)) exchanges (Ok all) → AreMore shapes (read ∷ reads) images all
  unfolding Held
  image_added images all read reads rows kept goes true exchanges held =
      let more = goes exchanges held in
      record { rest = rows ∷ more.rest; is = more.is ∙ append_assoc images (rows ∷ []) more.rest; fit = (kept, more.fit) }
  image_added images all read reads rows kept goes false exchanges held = no_failure held.1

  image_behind : (images all : List Rows) (read : TableRead) (reads : List TableRead)
      → ((rows : Rows) (exchanges : List Exchange) → Held manner (images_from none_known shapes level (images ++ rows ∷ []) reads) exchanges (Ok all) → AreMore shapes reads (images ++ rows ∷ []) all)
      → (first : Result Rows Refusal) → Comes manner (reads_table none_known shapes level read) first
      → Comes manner (on_ok (λ rows. with_room Memory (images_from none_known shapes level (images ++ rows ∷ []) reads)) first) (Ok all) → AreMore shapes (read ∷ reads) images all
  unfolding Held
  image_behind images all read reads goes (Err refusal) came rest = no_failure rest.1.1
  image_behind images all read reads goes (Ok rows) came rest = image_added images all read reads rows (table_kept manner shapes level read rows came) (goes rows) rest.1.0 rest.0 rest.1.1

  images_more : (images all : List Rows) (reads : List TableRead) (exchanges : List Exchange) → Held manner (images_from none_known shapes level images reads) exchanges (Ok all) → AreMore shapes reads images all
  unfolding images_from Held
  images_more images all [] exchanges held = record { rest = []; is = ap images_or_none held.1 ∙ sym (append-nil images); fit = tt }
  images_more images all (read ∷ reads) exchanges held =
      let b = behind manner (reads_table none_known shapes level read) (on_ok (λ rows. with_room Memory (images_from none_known shapes level (images ++ rows ∷ []) reads))) exchanges (Ok all) held in
      image_behind images all read reads (λ rows later went. images_more (images ++ rows ∷ []) all reads later went) b.first b.came b.more

  images_whole : (all : List Rows) (reads : List TableRead) (enough : Bool) (exchanges : List Exchange) → Held manner (if enough then images_from none_known shapes level [] reads else over (Err Memory)) exchanges (Ok all) → ImagesFit shapes (tables_of reads) all
  unfolding Held
  images_whole all reads true exchanges held = let more = images_more [] all reads exchanges held in subst (λ (images : List Rows). ImagesFit shapes (tables_of reads) images) (sym more.is) more.fit
  images_whole all reads false exchanges held = no_failure held.1

-- what a statement has read fits its tables
pub images_fit : {before after : PortPast} (manner : Manner) (shapes : List TableTree) (level : Level) (vars : List Value) (of : Bound) (images : List Rows)
    → Asks before after manner (images_of (given_of None) shapes level vars of) (Ok images) → ImagesFit shapes (tables_of_reads of) images
unfolding images_of Held
images_fit manner shapes level vars of images was =
    subst (λ (tables : List TableName). ImagesFit shapes tables images) (tables_of_reads_are vars shapes of) (images_whole manner shapes level images (reads_of vars shapes of) was.held.0 was.exchanges was.held.1)
