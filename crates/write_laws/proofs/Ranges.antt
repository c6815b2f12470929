-- The rows of a range.
use Rattle.std.proofs.Common.{◌≡◌, ℕ, zero, suc, nat_eq, Bool, true, false, ◌&&◌, if◌then◌else◌, cond, List, [], ◌∷◌, ◌++◌, length, map, filter, Option, None, Some, Result, Ok, Err, refl, sym, subst, ◌∙◌, append-nil, append_assoc}
use Rattle.std.specs.Prelude.{IsSome}
use Rattle.std.proofs.lemmas.Bool.{eqb-true}
use Rattle.std.specs.List.{AllByRecursion}
use Rattle.std.specs.Cmp.{Equal-is}
use Rattle.std.specs.declared.cmp.Ordering.TheVariants.{Equal}
use Rattle.lock_modes.specs.declared.KeyPart.{KeyPart}
use Rattle.value_types.specs.declared.table_name.TableName.{TableName}
use Rattle.value_types.specs.declared.value.Value.{Value}
use Rattle.value_types.specs.Order.{key_cmp}
use Rattle.tsql_tree.specs.declared.definition.TableTree.{TableTree}
use Rattle.step_model.specs.declared.manner.Manner.{Manner}
use Rattle.step_model.specs.declared.op.Hold.TheVariants.{Range}
use Rattle.step_model.specs.declared.op.Op.{Op}
use Rattle.step_model.specs.declared.op.Op.TheVariants.{Fetch}
use Rattle.step_model.specs.declared.range.KeyRange.{KeyRange}
use Rattle.step_model.specs.declared.range.Start.{Start}
use Rattle.step_model.specs.declared.range.Start.TheVariants.{First, At, Past}
use Rattle.step_model.specs.declared.range.Stop.{Stop}
use Rattle.step_model.specs.declared.range.Stop.TheVariants.{Last, Within}
use Rattle.step_model.specs.declared.reply.Reply.{Reply}
use Rattle.step_model.specs.declared.reply.Reply.TheVariants.{Row, Gone, End, Memory as NoMemory, TimedOut as Refuses, Victim as Falls}
use Rattle.step_model.specs.Database.{Database, In, allows, includes}
use Rattle.step_model.specs.Dialog.{Dialog, over, ◌then◌, Held}
use Rattle.step_model.specs.Exchange.{Exchange, CanReply}
use Rattle.step_model.specs.Fits.{AnswersIn}
use Rattle.step_model.specs.Ranges.{Keeps, Rows, range_limit, with_row}
use Rattle.table_rows.specs.Rows.{same_key}
use Rattle.constraint_check.specs.Laws.{KeysAreOne}
use Rattle.history_laws.proofs.Basics.{both}
use Rattle.dml_exec.specs.declared.refusal.Refusal.{Refusal}
use Rattle.dml_exec.specs.declared.refusal.Refusal.TheVariants.{Memory, Limit, TimedOut, Victim}
use Rattle.dml_exec.specs.Asking.{on_ok, with_room_if}
use Rattle.dml_exec.specs.Reading.{behind_gone, fetch_of, fetches, fits, from, is_one_key, is_short, key_width, read_by, reads_on, rows_from, rows_in}
use Rattle.write_laws.specs.Reading.{RangeRead}
use Rattle.write_laws.specs.Reads.{at_place, IfOne, IsOneKey, IsRead, KeysHave, HoldsIt}
use Rattle.write_laws.proofs.Entries.{Entry, none_in, row_on, gone_on, one_row_in, one_gone_in, first_tied, in_tied}
use Rattle.write_laws.proofs.Parts.{Fetches, all_asked, answers, asks_ok, asks_room, asks_room_if, one_place}

-- ---- what is asked

read_by_fetches : (width : ℕ) (keeps : Keeps) (so_far : Rows) (reply : Reply) → Fetches (read_by width keeps so_far reply)
read_by_fetches width keeps so_far (Row key row at) = asks_room HoldsIt Memory (over (Ok (with_row keeps so_far key row, Some (Past key)))) tt
read_by_fetches width keeps so_far (Gone key at) = asks_room_if HoldsIt (is_short width key) Memory (over (Ok (so_far, Some (behind_gone width key)))) tt
read_by_fetches width keeps so_far (End at) = tt
read_by_fetches width keeps so_far NoMemory = tt
read_by_fetches width keeps so_far (Refuses holder held asked on) = tt
read_by_fetches width keeps so_far (Falls cycle) = tt
read_by_fetches width keeps so_far reply = tt

module _ (table : TableName) (stop : Stop) (lock : KeyPart) where
  abbrev pub fetch : Start → Op
  fetch start = Fetch table start stop Range lock

  from_fetches : (width : ℕ) (keeps : Keeps) (left : ℕ) (start : Start) (so_far : Rows) → Fetches (rows_from width keeps left (fetch start) so_far)
  unfolding rows_from
  from_fetches width keeps zero start so_far = tt
  from_fetches width keeps (suc left) start so_far =
      asks_ok HoldsIt (fetches width keeps (fetch start) so_far) (reads_on (λ more on. rows_from width keeps left (from on (fetch start)) more)) (tt, read_by_fetches width keeps so_far) (on_came (λ on more. from_fetches width keeps left on more))
    where
      on_came : ((on : Start) (more : Rows) → Fetches (rows_from width keeps left (fetch on) more)) → (came : Rows × Option Start) → Fetches (reads_on (λ more on. rows_from width keeps left (from on (fetch start)) more) came)
      on_came rest (more, None) = tt
      on_came rest (more, Some on) = rest on more

  pub in_fetches : (shape : Option TableTree) (number : ℕ) (one : Bool) (start : Start) → Fetches (rows_in shape number one (fetch start))
  unfolding rows_in
  in_fetches shape number true start =
      asks_ok HoldsIt (fetches (key_width shape number) (fits shape number) (fetch start) []) (λ came. over (Ok came.0)) (tt, read_by_fetches (key_width shape number) (fits shape number) []) (λ came. tt)
  in_fetches shape number false start = from_fetches (key_width shape number) (fits shape number) range_limit start []

-- ---- what comes of the replies

pub kept : (b : Bool) (so_far : Rows) (key row : List Value) (rest : List Entry)
    → (if b then so_far ++ row ∷ [] else so_far) ++ map (λ (at : Entry). at.1) rest ≡ so_far ++ map (λ (at : Entry). at.1) (cond b ((key, row) ∷ rest) rest)
kept true so_far key row rest = append_assoc so_far (row ∷ []) (map (λ (at : Entry). at.1) rest)
kept false so_far key row rest = refl

module _ (db : Database) (one_key : KeysAreOne db) (manner : Manner) (width : ℕ) (keeps : Keeps) (table : TableName) (stop : Stop) (lock : KeyPart) (long : KeysHave width db table) where
  abbrev Answers : Exchange → Type 0
  Answers x = AnswersIn db x.op x.reply

  -- behind what was read so far
  abbrev pub IsReadOn : Start → Rows → Rows → Type 0
  IsReadOn start so_far rows = (entries : List Entry) × In db table start stop entries × (rows ≡ so_far ++ map (λ (at : Entry). at.1) (filter keeps entries))

  abbrev Goes : ℕ → Type 0
  Goes left = (start : Start) (so_far rows : Rows) (part : List Exchange) → AllByRecursion Answers part → Held manner (rows_from width keeps left (fetch table stop lock start) so_far) part (Ok rows) → IsReadOn start so_far rows

  abbrev next : ℕ → Start → Rows → Start → Dialog (Result Rows Refusal)
  next left start = λ more on. rows_from width keeps left (from on (fetch table stop lock start)) more

  on_reply : (left : ℕ) → Goes left → (start : Start) (so_far rows : Rows) (reply : Reply) (later : List Exchange) → CanReply (fetch table stop lock start) reply → AnswersIn db (fetch table stop lock start) reply
      → AllByRecursion Answers later → Held manner (read_by width keeps so_far reply then on_ok (reads_on (next left start))) later (Ok rows) → IsReadOn start so_far rows
  unfolding Held ◌then◌
  on_reply left goes start so_far rows (Row key row at) later can answer answered held = by_room held.0 held.1
    where
      by_room : (enough : Bool) → Held manner ((if enough then over (Ok (with_row keeps so_far key row, Some (Past key))) else over (Err Memory)) then on_ok (reads_on (next left start))) later (Ok rows) → IsReadOn start so_far rows
      by_room true held =
          let rest = goes (Past key) (with_row keeps so_far key row) rows later answered held in
          ((key, row) ∷ rest.0, row_on db table width long start stop key rest.0 row answer.0 answer.1 rest.1, rest.2 ∙ kept (keeps (key, row)) so_far key row (filter keeps rest.0))
      by_room false held = absurd (let no : Ok rows ≡ Err Memory = held.1 in cc)
  on_reply left goes start so_far rows (Gone key at) later can answer answered held = by_room (is_short width key) held
    where
      going : Held manner (rows_from width keeps left (from (behind_gone width key) (fetch table stop lock start)) so_far) later (Ok rows) → IsReadOn start so_far rows
      going held =
          let rest = goes (behind_gone width key) so_far rows later answered held in
          (rest.0, gone_on db table width long start stop key rest.0 one_key (both (allows start key) (includes stop key) can).0 answer.0 answer.1 rest.1, rest.2)

      by_enough : (enough : Bool) → Held manner ((if enough then over (Ok (so_far, Some (behind_gone width key))) else over (Err Memory)) then on_ok (reads_on (next left start))) later (Ok rows) → IsReadOn start so_far rows
      by_enough true held = going held
      by_enough false held = absurd (let no : Ok rows ≡ Err Memory = held.1 in cc)

      by_room : (short : Bool) → Held manner (with_room_if short Memory (over (Ok (so_far, Some (behind_gone width key)))) then on_ok (reads_on (next left start))) later (Ok rows) → IsReadOn start so_far rows
      by_room true held = by_enough held.0 held.1
      by_room false held = going held
  on_reply left goes start so_far rows (End at) later can answer answered held =
      ([], none_in db table start stop answer, (let is : rows ≡ so_far = cc in is) ∙ sym (append-nil so_far))
  on_reply left goes start so_far rows NoMemory later can answer answered held = absurd (let no : Ok rows ≡ Err Memory = held.1 in cc)
  on_reply left goes start so_far rows (Refuses holder what asked on) later can answer answered held = absurd (let no : Ok rows ≡ Err TimedOut = held.1 in cc)
  on_reply left goes start so_far rows (Falls cycle) later can answer answered held = absurd (let no : Ok rows ≡ Err Victim = held.1 in cc)
  on_reply left goes start so_far rows reply later can answer answered held = absurd held

  pub read_from : (left : ℕ) → Goes left
  unfolding Held ◌then◌ rows_from
  read_from zero start so_far rows part answered held = absurd (let no : Ok rows ≡ Err Limit = held.1 in cc)
  read_from (suc left) start so_far rows [] answered held = absurd held
  read_from (suc left) start so_far rows (x ∷ later) answered held =
      on_reply left (read_from left) start so_far rows x.reply later held.2 (subst (λ (op : Op). AnswersIn db op x.reply) held.0 answered.0) answered.1 held.3

-- ---- one whole key

module _ (db : Database) (one_key : KeysAreOne db) (manner : Manner) (shape : Option TableTree) (number : ℕ) (table : TableName) (lock : KeyPart) (long : KeysHave (key_width shape number) db table) (first last : List Value) (is_long : length first ≡ key_width shape number) (tied : key_cmp first last ≡ Equal) where
  abbrev one_fetch : Op
  one_fetch = fetch table (Within last) lock (At first)

  abbrev keeps : Keeps
  keeps = fits shape number

  abbrev IsReadAt : Rows → Type 0
  IsReadAt rows = (entries : List Entry) × In db table (At first) (Within last) entries × (rows ≡ map (λ (at : Entry). at.1) (filter keeps entries))

  as_long : (k : List Value) → IsSome (db table k) → length k ≡ length first
  as_long k some = long k some ∙ sym is_long

  abbrev came_rows : Rows × Option Start → Dialog (Result Rows Refusal)
  came_rows came = over (Ok came.0)

  on_one : (rows : Rows) (reply : Reply) (later : List Exchange) → CanReply one_fetch reply → AnswersIn db one_fetch reply → Held manner (read_by (key_width shape number) keeps [] reply then on_ok came_rows) later (Ok rows) → IsReadAt rows
  unfolding Held ◌then◌
  on_one rows (Row key row at) later can answer held = by_room held.0 held.1
    where
      by_room : (enough : Bool) → Held manner ((if enough then over (Ok (with_row keeps [] key row, Some (Past key))) else over (Err Memory)) then on_ok came_rows) later (Ok rows) → IsReadAt rows
      by_room true held =
          ((key, row) ∷ [], in_tied db table (At first) first last tied ((key, row) ∷ []) (one_row_in db table first as_long key row (first_tied db table (At first) first last tied (Some key) answer.0) answer.1), (let is : rows ≡ with_row keeps [] key row = cc in is) ∙ sym (append-nil (with_row keeps [] key row)) ∙ kept (keeps (key, row)) [] key row [])
      by_room false held = absurd (let no : Ok rows ≡ Err Memory = held.1 in cc)
  on_one rows (Gone key at) later can answer held = by_room (is_short (key_width shape number) key) held
    where
      going : rows ≡ [] → IsReadAt rows
      going is = ([], in_tied db table (At first) first last tied [] (one_gone_in db table first as_long one_key key (both (allows (At first) key) (includes (Within last) key) can).0 answer.0 answer.1), is)

      by_enough : (enough : Bool) → Held manner ((if enough then over (Ok ([], Some (behind_gone (key_width shape number) key))) else over (Err Memory)) then on_ok came_rows) later (Ok rows) → IsReadAt rows
      by_enough true held = going (let is : rows ≡ [] = cc in is)
      by_enough false held = absurd (let no : Ok rows ≡ Err Memory = held.1 in cc)

      by_room : (short : Bool) → Held manner (with_room_if short Memory (over (Ok ([], Some (behind_gone (key_width shape number) key)))) then on_ok came_rows) later (Ok rows) → IsReadAt rows
      by_room true held = by_enough held.0 held.1
      by_room false held = going (let is : rows ≡ [] = cc in is)
  on_one rows (End at) later can answer held = ([], none_in db table (At first) (Within last) answer, (let is : rows ≡ [] = cc in is))
  on_one rows NoMemory later can answer held = absurd (let no : Ok rows ≡ Err Memory = held.1 in cc)
  on_one rows (Refuses holder what asked on) later can answer held = absurd (let no : Ok rows ≡ Err TimedOut = held.1 in cc)
  on_one rows (Falls cycle) later can answer held = absurd (let no : Ok rows ≡ Err Victim = held.1 in cc)
  on_one rows reply later can answer held = absurd held

  pub read_one : (rows : Rows) (part : List Exchange) → AllByRecursion (λ x. AnswersIn db x.op x.reply) part → Held manner (rows_in shape number true one_fetch) part (Ok rows) → IsReadAt rows
  unfolding Held ◌then◌ rows_in
  read_one rows [] answered held = absurd held
  read_one rows (x ∷ later) answered held = on_one rows x.reply later held.2 (subst (λ (op : Op). AnswersIn db op x.reply) held.0 answered.0) held.3

-- ---- both

-- a range that is read so is one whole key
pub told_one : (width : ℕ) (start : Start) (stop : Stop) → IfOne (is_one_key width start stop) (IsOneKey width start stop)
told_one width First stop = tt
told_one width (At key) Last = tt
told_one width (At key) (Within last) = by_test (nat_eq (length key) width && same_key key last) refl
  where
    by_test : (b : Bool) → (nat_eq (length key) width && same_key key last) ≡ b → IfOne b (IsOneKey width (At key) (Within last))
    by_test true is = let parts = both (nat_eq (length key) width) (same_key key last) is in (parts.1, eqb-true (length key) width parts.0)
    by_test false is = tt
told_one width (Past key) stop = tt

-- what is answered of one database is read of it
pub read_in : (db : Database) → KeysAreOne db → (manner : Manner) (shape : Option TableTree) (number : ℕ) (one : Bool) (range : KeyRange) (lock : KeyPart) (rows : Rows) (part : List Exchange)
    → AllByRecursion (λ x. AnswersIn db x.op x.reply) part → Held manner (rows_in shape number one (fetch_of range Range lock)) part (Ok rows)
    → KeysHave (key_width shape number) db range.table → IfOne one (IsOneKey (key_width shape number) range.start range.stop) → IsRead db (fits shape number) range rows
unfolding rows_in
read_in db one_key manner shape number false range lock rows part answered held long whole = read_from db one_key manner (key_width shape number) (fits shape number) range.table range.stop lock long range_limit range.start [] rows part answered held
read_in db one_key manner shape number true range lock rows part answered held long whole = by_ends range.start range.stop whole held
  where
    by_ends : (start : Start) (stop : Stop) → IsOneKey (key_width shape number) start stop → Held manner (rows_in shape number true (Fetch range.table start stop Range lock)) part (Ok rows)
        → (entries : List Entry) × In db range.table start stop entries × (rows ≡ map (λ (at : Entry). at.1) (filter (fits shape number) entries))
    by_ends (At key) (Within last) whole held = read_one db one_key manner shape number range.table lock long key last whole.1 ((Equal-is (key_cmp key last)).0 whole.0) rows part answered held
    by_ends start stop whole held = absurd whole

pub range_read : RangeRead
range_read log mine before part later manner shape number one range lock rows is holds held long whole =
    read_in (at_place log before later) (one_place log before later) manner shape number one range lock rows part
    (answers log mine before part later is holds (all_asked HoldsIt manner (rows_in shape number one (fetch_of range Range lock)) part (Ok rows) (in_fetches range.table range.stop lock shape number one range.start) held))
    held long whole
