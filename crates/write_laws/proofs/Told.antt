-- The fetch of each row that was read.
use Rattle.std.proofs.Common.{◌≡◌, ℕ, zero, suc, ◌+◌, Bool, true, false, if◌then◌else◌, List, [], ◌∷◌, ◌++◌, length, get_or, map, filter, Option, None, Some, IsTrue, Result, Ok, Err, refl, sym, ap, subst, ◌∙◌, append-nil, append_assoc, arith}
use Rattle.std.proofs.lemmas.List.{length-append}
use Rattle.std.specs.List.{AllByRecursion}
use Rattle.std.specs.List.Sorted.{IsStrictlySortedBy}
use Rattle.std.specs.declared.cmp.Ordering.TheVariants.{Less}
use Rattle.lock_modes.specs.declared.KeyPart.{KeyPart}
use Rattle.lock_modes.specs.declared.KeyPart.TheVariants.{U}
use Rattle.value_types.specs.declared.table_name.TableName.{TableName}
use Rattle.value_types.specs.declared.value.Value.{Value}
use Rattle.value_types.specs.Order.{key_cmp}
use Rattle.tsql_tree.specs.declared.definition.TableTree.{TableTree}
use Rattle.bound_tree.specs.declared.expr.BoundTest.{BoundTest}
use Rattle.bound_tree.specs.declared.query.InnerQuery.{InnerQuery}
use Rattle.bound_tree.specs.declared.write.BoundWrite.TheVariants as write
use Rattle.step_model.specs.declared.manner.Manner.{Manner}
use Rattle.step_model.specs.declared.op.Hold.{Hold}
use Rattle.step_model.specs.declared.op.Op.{Op}
use Rattle.step_model.specs.declared.op.Op.TheVariants.{Fetch}
use Rattle.step_model.specs.declared.range.KeyRange.{KeyRange}
use Rattle.step_model.specs.declared.range.Start.{Start}
use Rattle.step_model.specs.declared.range.Start.TheVariants.{Past}
use Rattle.step_model.specs.declared.range.Stop.{Stop}
use Rattle.step_model.specs.declared.reply.Reply.{Reply}
use Rattle.step_model.specs.declared.reply.Reply.TheVariants.{Row, Gone, End, Memory as NoMemory, TimedOut as Refuses, Victim as Falls}
use Rattle.step_model.specs.Database.{allows, includes, is_within}
use Rattle.step_model.specs.Dialog.{Dialog, over, ◌then◌, Held}
use Rattle.step_model.specs.Exchange.{CanReply, Exchange}
use Rattle.step_model.specs.Ranges.{Keeps, Rows, range_limit, with_row}
use Rattle.table_rows.specs.Rows.{shape_of}
use Rattle.constraint_check.proofs.Lists.{all_more}
use Rattle.history_laws.proofs.Basics.{both}
use Rattle.history_laws.proofs.Ranges.{allows_above}
use Rattle.dml_exec.specs.declared.refusal.Level.{Level}
use Rattle.dml_exec.specs.declared.refusal.Refusal.{Refusal}
use Rattle.dml_exec.specs.declared.refusal.Refusal.TheVariants.{Limit, Memory}
use Rattle.dml_exec.specs.Asking.{on_ok, with_room, with_room_if}
use Rattle.dml_exec.specs.Reading.{GivenRows, TableRead, behind_gone, fetch_of, fetches, fits, from, hold_at, images_from, images_of, inner_reads, inner_tables, is_short, key_width, part_of, read_by, reads_on, reads_range, reads_table, rows_from, rows_in, target_read, unless_given}
use Rattle.dml_exec.proofs.ReadTables.{inner_counted}
use Rattle.write_laws.specs.Planning.{target_image}
use Rattle.write_laws.specs.Told.{AreTold, RowsTold, TargetsRead, ToldThere, WasTold}
use Rattle.write_laws.proofs.Dialogs.{held_ok, held_room, ok_err}
use Rattle.write_laws.proofs.Entries.{Entry}
use Rattle.write_laws.proofs.Keys.{behind_above, past_above}
use Rattle.write_laws.proofs.Ranges.{kept}

-- what was told among some exchanges was told among more
pub told_among : (front part later : List Exchange) (table : TableName) (stop : Stop) (hold : Hold) (lock : KeyPart) (at : Entry) → WasTold part table stop hold lock at → WasTold (front ++ (part ++ later)) table stop hold lock at
told_among front part later table stop hold lock at was = record {
  front = front ++ was.front;
  fetch = was.fetch;
  behind = was.behind ++ later;
  split = ap (λ (xs : List Exchange). front ++ (xs ++ later)) was.split ∙ ap (λ (xs : List Exchange). front ++ xs) (append_assoc was.front (was.fetch ∷ was.behind) later) ∙ sym (append_assoc front was.front (was.fetch ∷ (was.behind ++ later)));
  start = was.start;
  number = was.number;
  asked = was.asked;
  told = was.told;
}

module _ (manner : Manner) (width : ℕ) (keeps : Keeps) (table : TableName) (stop : Stop) (hold : Hold) (lock : KeyPart) where
  abbrev fetch : Start → Op
  fetch start = Fetch table start stop hold lock

  abbrev There : List Exchange → Start → Entry → Type 0
  There part start at = IsTrue (is_within start stop at.0) × WasTold part table stop hold lock at

  -- such rows, in order
  abbrev AreSeen : List Exchange → Start → List Entry → Type 0
  AreSeen part start entries = IsStrictlySortedBy (λ at other. key_cmp at.0 other.0) entries × AllByRecursion (There part start) entries

  abbrev IsSeenOn : List Exchange → Start → Rows → Rows → Type 0
  IsSeenOn part start so_far rows = (entries : List Entry) × AreSeen part start entries × (rows ≡ so_far ++ map (λ (at : Entry). at.1) (filter keeps entries))

  -- what was told where a range goes on that allows keys above one of its keys alone
  told_on : (x : Exchange) (later : List Exchange) (start on : Start) (key : List Value) → ((k : List Value) → allows on k ≡ true → key_cmp key k ≡ Less) → allows start key ≡ true → (at : Entry) → There later on at → There (x ∷ later) start at
  told_on x later start on key above allowed at there =
      let parts = both (allows on at.0) (includes stop at.0) there.0 in (
        rw (allows_above start key at.0 (above at.0 parts.0) allowed, parts.1) refl,
        subst (λ (xs : List Exchange). WasTold (x ∷ xs) table stop hold lock at) (append-nil later) (told_among (x ∷ []) later [] table stop hold lock at there.1),
      )

  seen_row : (x : Exchange) (later : List Exchange) (start : Start) (key row : List Value) (number : ℕ) (rest : List Entry) → x.op ≡ fetch start → x.reply ≡ Row key row number → IsTrue (is_within start stop key)
      → AreSeen later (Past key) rest → AreSeen (x ∷ later) start ((key, row) ∷ rest)
  unfolding IsStrictlySortedBy
  seen_row x later start key row number rest asked told within seen = (
    (all_more (There later (Past key)) (λ at. key_cmp key at.0 ≡ Less) (λ at there. past_above key at.0 (both (allows (Past key) at.0) (includes stop at.0) there.0).0) rest seen.1, seen.0),
    (
      (within, record { front = []; fetch = x; behind = later; split = refl; start = start; number = number; asked = asked; told = told }),
      all_more (There later (Past key)) (There (x ∷ later) start) (told_on x later start (Past key) key (past_above key) (both (allows start key) (includes stop key) within).0) rest seen.1,
    ),
  )

  none_seen : (part : List Exchange) (start : Start) → AreSeen part start []
  unfolding IsStrictlySortedBy
  none_seen part start = (tt, tt)

  -- ---- the rest of a range

  abbrev next : ℕ → Start → Rows → Start → Dialog (Result Rows Refusal)
  next left start = λ more on. rows_from width keeps left (from on (fetch start)) more

  abbrev Goes : ℕ → Type 0
  Goes left = (start : Start) (so_far rows : Rows) (part : List Exchange) → Held manner (rows_from width keeps left (fetch start) so_far) part (Ok rows) → IsSeenOn part start so_far rows

  on_reply : (left : ℕ) → Goes left → (x : Exchange) (start : Start) (so_far rows : Rows) (reply : Reply) (later : List Exchange) → x.op ≡ fetch start → x.reply ≡ reply → CanReply (fetch start) reply
      → Held manner (read_by width keeps so_far reply then on_ok (reads_on (next left start))) later (Ok rows) → IsSeenOn (x ∷ later) start so_far rows
  unfolding Held ◌then◌
  on_reply left goes x start so_far rows (Row key row at) later asked told can held = by_room held.0 held.1
    where
      by_room : (enough : Bool) → Held manner ((if enough then over (Ok (with_row keeps so_far key row, Some (Past key))) else over (Err Memory)) then on_ok (reads_on (next left start))) later (Ok rows) → IsSeenOn (x ∷ later) start so_far rows
      by_room true held =
          let rest = goes (Past key) (with_row keeps so_far key row) rows later held in
          ((key, row) ∷ rest.0, seen_row x later start key row at rest.0 asked told can rest.1, rest.2 ∙ kept (keeps (key, row)) so_far key row (filter keeps rest.0))
      by_room false held = absurd (ok_err rows _ held.1)
  on_reply left goes x start so_far rows (Gone key at) later asked told can held = by_room (is_short width key) held
    where
      going : Held manner (rows_from width keeps left (from (behind_gone width key) (fetch start)) so_far) later (Ok rows) → IsSeenOn (x ∷ later) start so_far rows
      going held =
          let rest = goes (behind_gone width key) so_far rows later held in
          (rest.0, (rest.1.0, all_more (There later (behind_gone width key)) (There (x ∷ later) start) (told_on x later start (behind_gone width key) key (behind_above width key) (both (allows start key) (includes stop key) can).0) rest.0 rest.1.1), rest.2)

      by_enough : (enough : Bool) → Held manner ((if enough then over (Ok (so_far, Some (behind_gone width key))) else over (Err Memory)) then on_ok (reads_on (next left start))) later (Ok rows) → IsSeenOn (x ∷ later) start so_far rows
      by_enough true held = going held
      by_enough false held = absurd (ok_err rows _ held.1)

      by_room : (short : Bool) → Held manner (with_room_if short Memory (over (Ok (so_far, Some (behind_gone width key)))) then on_ok (reads_on (next left start))) later (Ok rows) → IsSeenOn (x ∷ later) start so_far rows
      by_room true held = by_enough held.0 held.1
      by_room false held = going held
  on_reply left goes x start so_far rows (End at) later asked told can held = ([], none_seen (x ∷ later) start, (let is : rows ≡ so_far = cc in is) ∙ sym (append-nil so_far))
  on_reply left goes x start so_far rows NoMemory later asked told can held = absurd (ok_err rows _ held.1)
  on_reply left goes x start so_far rows (Refuses holder what on_key on) later asked told can held = absurd (ok_err rows _ held.1)
  on_reply left goes x start so_far rows (Falls cycle) later asked told can held = absurd (ok_err rows _ held.1)
  on_reply left goes x start so_far rows reply later asked told can held = absurd held

  pub seen_from : (left : ℕ) → Goes left
  unfolding Held ◌then◌ rows_from
  seen_from zero start so_far rows part held = absurd (ok_err rows Limit held.1)
  seen_from (suc left) start so_far rows [] held = absurd held
  seen_from (suc left) start so_far rows (x ∷ later) held = on_reply left (seen_from left) x start so_far rows x.reply later held.0 refl held.2 held.3

  -- ---- one whole key

  abbrev came_rows : Rows × Option Start → Dialog (Result Rows Refusal)
  came_rows came = over (Ok came.0)

  on_one : (x : Exchange) (start : Start) (rows : Rows) (reply : Reply) (later : List Exchange) → x.op ≡ fetch start → x.reply ≡ reply → CanReply (fetch start) reply → Held manner (read_by width keeps [] reply then on_ok came_rows) later (Ok rows) → IsSeenOn (x ∷ later) start [] rows
  unfolding Held ◌then◌
  on_one x start rows (Row key row at) later asked told can held = by_room held.0 held.1
    where
      by_room : (enough : Bool) → Held manner ((if enough then over (Ok (with_row keeps [] key row, Some (Past key))) else over (Err Memory)) then on_ok came_rows) later (Ok rows) → IsSeenOn (x ∷ later) start [] rows
      by_room true held =
          ((key, row) ∷ [], seen_row x later start key row at [] asked told can (none_seen later (Past key)), (let is : rows ≡ with_row keeps [] key row = cc in is) ∙ sym (append-nil (with_row keeps [] key row)) ∙ kept (keeps (key, row)) [] key row [])
      by_room false held = absurd (ok_err rows _ held.1)
  on_one x start rows (Gone key at) later asked told can held = by_room (is_short width key) held
    where
      by_enough : (enough : Bool) → Held manner ((if enough then over (Ok ([], Some (behind_gone width key))) else over (Err Memory)) then on_ok came_rows) later (Ok rows) → IsSeenOn (x ∷ later) start [] rows
      by_enough true held = ([], none_seen (x ∷ later) start, (let is : rows ≡ [] = cc in is))
      by_enough false held = absurd (ok_err rows _ held.1)

      by_room : (short : Bool) → Held manner (with_room_if short Memory (over (Ok ([], Some (behind_gone width key)))) then on_ok came_rows) later (Ok rows) → IsSeenOn (x ∷ later) start [] rows
      by_room true held = by_enough held.0 held.1
      by_room false held = ([], none_seen (x ∷ later) start, (let is : rows ≡ [] = cc in is))
  on_one x start rows (End at) later asked told can held = ([], none_seen (x ∷ later) start, (let is : rows ≡ [] = cc in is))
  on_one x start rows NoMemory later asked told can held = absurd (ok_err rows _ held.1)
  on_one x start rows (Refuses holder what on_key on) later asked told can held = absurd (ok_err rows _ held.1)
  on_one x start rows (Falls cycle) later asked told can held = absurd (ok_err rows _ held.1)
  on_one x start rows reply later asked told can held = absurd held

  pub seen_one : (start : Start) (rows : Rows) (part : List Exchange) → Held manner (fetches width keeps (fetch start) [] then on_ok came_rows) part (Ok rows) → IsSeenOn part start [] rows
  unfolding Held ◌then◌
  seen_one start rows [] held = absurd held
  seen_one start rows (x ∷ later) held = on_one x start rows x.reply later held.0 refl held.2 held.3

-- ---- both

seen_in : (manner : Manner) (part : List Exchange) (shape : Option TableTree) (one : Bool) (range : KeyRange) (hold : Hold) (lock : KeyPart) (rows : Rows)
    → Held manner (rows_in shape 0 one (fetch_of range hold lock)) part (Ok rows) → IsSeenOn manner (key_width shape 0) (fits shape 0) range.table range.stop hold lock part range.start [] rows
unfolding rows_in
seen_in manner part shape false range hold lock rows held = seen_from manner (key_width shape 0) (fits shape 0) range.table range.stop hold lock range_limit range.start [] rows part held
seen_in manner part shape true range hold lock rows held = seen_one manner (key_width shape 0) (fits shape 0) range.table range.stop hold lock range.start rows part held

pub rows_told : RowsTold
rows_told manner part shape one range hold lock rows held =
    let seen = seen_in manner part shape one range hold lock rows held in
    (seen.0, seen.1.0, seen.1.1, seen.2)

-- ---- the rows of a target

-- the image behind others
behind : (images : List Rows) (rows : Rows) → get_or (images ++ rows ∷ []) (length images) [] ≡ rows
behind [] rows = refl
behind (image ∷ images) rows = behind images rows

module _ (manner : Manner) (given : GivenRows) (shapes : List TableTree) (level : Level) (target : TableRead) (fetched : given target.0.table ≡ None) where
  abbrev shape : Option TableTree
  shape = shape_of target.0.table shapes

  abbrev Told : List Exchange → Rows → Type 0
  Told part rows = AreTold part (fits shape 0) target.0 (hold_at level) (part_of target.1) rows

  told_more : (front part later : List Exchange) (rows : Rows) → Told part rows → Told (front ++ (part ++ later)) rows
  told_more front part later rows told = (
    told.0,
    told.1,
    all_more (ToldThere part target.0 (hold_at level) (part_of target.1)) (ToldThere (front ++ (part ++ later)) target.0 (hold_at level) (part_of target.1))
        (λ at there. (there.0, told_among front part later target.0.table target.0.stop (hold_at level) (part_of target.1) at there.1)) told.0 told.2,
    told.3,
  )

  target_told : (rows : Rows) (part : List Exchange) → Held manner (reads_table given shapes level target) part (Ok rows) → Told part rows
  unfolding reads_table
  target_told rows part held =
      rows_told manner part shape _ target.0 (hold_at level) (part_of target.1) rows
      (subst (λ (o : Option Rows). Held manner (unless_given o (reads_range shape level target)) part (Ok rows)) fetched held)

  -- it stands behind the images of what is read in front
  image_told : (reads : List TableRead) (so_far images : List Rows) (part : List Exchange) (place : ℕ) → place ≡ length so_far + length reads
      → Held manner (images_from given shapes level so_far (reads ++ target ∷ [])) part (Ok images) → Told part (get_or images place [])
  unfolding Held images_from
  image_told [] so_far images part place is held =
      let h = held_ok manner (reads_table given shapes level target) (λ rows. with_room Memory (images_from given shapes level (so_far ++ rows ∷ []) [])) part images held in
      let last = held_room manner Memory (images_from given shapes level (so_far ++ h.came ∷ []) []) h.second images h.more in
      let all : images ≡ so_far ++ h.came ∷ [] = let ended : Ok images ≡ Ok (so_far ++ h.came ∷ []) = last.1 in cc in
      let image : h.came ≡ get_or images place [] =
      sym (ap (λ (l : List Rows). get_or l place []) all ∙ ap (λ n. get_or (so_far ++ h.came ∷ []) n []) (omega (arith, is)) ∙ behind so_far h.came) in
      subst (λ (rows : Rows). Told part rows) image (subst (λ (xs : List Exchange). Told xs h.came) (sym h.parts) (told_more [] h.first h.second h.came (target_told h.came h.first h.held)))
  image_told (read ∷ reads) so_far images part place is held =
      let h = held_ok manner (reads_table given shapes level read) (λ rows. with_room Memory (images_from given shapes level (so_far ++ rows ∷ []) (reads ++ target ∷ []))) part images held in
      let rest = held_room manner Memory (images_from given shapes level (so_far ++ h.came ∷ []) (reads ++ target ∷ [])) h.second images h.more in
      let told : Told h.second (get_or images place []) = image_told reads (so_far ++ h.came ∷ []) images h.second place (simp length-append (omega (arith, is))) rest in
      subst (λ (xs : List Exchange). Told xs (get_or images place [])) (ap (λ (xs : List Exchange). h.first ++ xs) (append-nil h.second) ∙ sym h.parts) (told_more h.first h.second [] (get_or images place []) told)

-- what is read for a write of a target stands behind what its inner queries read
target_read_told : (manner : Manner) (given : GivenRows) (shapes : List TableTree) (level : Level) (vars : List Value) (table : TableName) (test : Option BoundTest) (inner : List InnerQuery) (part : List Exchange) (images : List Rows)
    → given table ≡ None → Held manner (with_room Memory (images_from given shapes level [] (inner_reads vars inner ++ target_read vars shapes table test ∷ []))) part (Ok images)
    → AreTold part (fits (shape_of table shapes) 0) (target_read vars shapes table test).0 (hold_at level) U (target_image inner images)
target_read_told manner given shapes level vars table test inner part images fetched held =
    let reads = inner_reads vars inner in
    let many : length (inner_tables inner) ≡ length reads = sym (inner_counted vars inner) in
    image_told manner given shapes level (target_read vars shapes table test) fetched reads [] images part (length (inner_tables inner)) (omega (arith, many))
    (held_room manner Memory (images_from given shapes level [] (reads ++ target_read vars shapes table test ∷ [])) part images held)

pub targets_read : TargetsRead
unfolding images_of
targets_read manner given shapes level vars (write.Insert table places rows) part images fetched held = tt
targets_read manner given shapes level vars (write.Update table sets test inner) part images fetched held = target_read_told manner given shapes level vars table test inner part images fetched held
targets_read manner given shapes level vars (write.Delete table test inner) part images fetched held = target_read_told manner given shapes level vars table test inner part images fetched held
