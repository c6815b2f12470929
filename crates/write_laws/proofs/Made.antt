-- Changes that were made, one exchange for each.
use Rattle.std.proofs.Common.{◌≡◌, refl, sym, ap, ◌∙◌, subst, ◌⊎◌, inl, inr, ℕ, Bool, true, false, not, ◌&&◌, if◌then◌else◌, List, [], ◌∷◌, ◌++◌, length, map, take, Option, Some, None, IsSome, is_some, Result, Ok, Err, append-nil, append_assoc}
use Rattle.std.proofs.lemmas.List.{map-append}
use Rattle.std.specs.List.{flat_map}
use Rattle.value_types.specs.declared.table_name.TableName.{TableName}
use Rattle.value_types.specs.declared.value.Value.{Value}
use Rattle.tsql_tree.specs.declared.definition.TableTree.{TableTree}
use Rattle.step_model.specs.declared.change.Change.{Change}
use Rattle.step_model.specs.declared.change.Deed.{Deed}
use Rattle.step_model.specs.declared.change.Deed.TheVariants as deed
use Rattle.step_model.specs.declared.change.Planned.{Planned}
use Rattle.step_model.specs.declared.manner.Manner.{Manner}
use Rattle.step_model.specs.declared.op.Op.{Op}
use Rattle.step_model.specs.declared.op.Op.TheVariants as ops
use Rattle.step_model.specs.declared.reply.Reply.{Reply}
use Rattle.step_model.specs.declared.reply.Reply.TheVariants as replies
use Rattle.step_model.specs.Database.{Database, With, with_change}
use Rattle.step_model.specs.Dialog.{Held, IsQuiet, asks, over, tries}
use Rattle.step_model.specs.Exchange.{CanReply, Exchange}
use Rattle.step_model.specs.Fits.{FreshIn, NoRelax, NoneEnds, WritesAt, inserts_fresh, is_ended, is_relax, place_of, view}
use Rattle.step_model.specs.Log.{Commit as Logged, State}
use Rattle.step_model.specs.Own.{Progress, change_of, is_insert, is_own, none_open, progress_after, progress_of}
use Rattle.step_model.proofs.Databases.{With-append}
use Rattle.index_laws.specs.Deeds.{deeds_by, deeds_erased, deeds_written, erases_if, inserts as inserts_row, replaces, rewrites_if}
use Rattle.index_laws.specs.Laws.{FreshOne, FreshRows, itself, never}
use Rattle.index_laws.specs.Moves.{erased_by, erased_if, rewritten_if, written_by}
use Rattle.index_laws.specs.Parts.{Among, IsOld, OfRow, RowChange, same}
use Rattle.table_rows.specs.Rows.{key_of}
use Rattle.constraint_check.specs.Laws.{behind}
use Rattle.dml_exec.specs.Asking.{with_room}
use Rattle.dml_exec.specs.Filling.{Row}
use Rattle.dml_exec.specs.Writing.{asks_deed, done_by, no_room, present, writes_all, writes_one}
use Rattle.write_laws.specs.Made.{AreMade, ComeFree, FreeFresh, IfSo, IsMadeBy, MadeLeave, TakenStand, WritesMake, inserts, inserts_into_part, op_of}
use Rattle.write_laws.specs.Reads.{at_place}
use Rattle.write_laws.proofs.Dialogs.{held_both, held_ok, held_room, ok_err}
use Rattle.write_laws.proofs.Parts.{from_both}
use Rattle.write_laws.proofs.TargetStands.{both_end, both_relax, place_past, told_stands}

-- ---- the exchanges of a dialog

module _ (manner : Manner) (shapes : List TableTree) where
  -- one exchange asks the operation, and has this reply
  abbrev IsAsked : Op → Reply → List Exchange → Type 0
  IsAsked op reply part = (x : Exchange) × (part ≡ x ∷ []) × (x.op ≡ op) × (x.reply ≡ reply) × CanReply op reply

  tried_asked : (op : Op) (quiet : IsQuiet op) (part : List Exchange) (came : Reply) → Held manner (tries op quiet over) part came → (came ≡ replies.Memory → ⊥) → IsAsked op came part
  unfolding Held tries
  tried_asked op quiet part came held other = by_room held.0 part held.1
    where
      by_room : (enough : Bool) (part : List Exchange) → Held manner (if enough then asks op quiet over else over replies.Memory) part came → IsAsked op came part
      by_room true [] held = absurd held
      by_room true (x ∷ later) held = (x, ap (λ (xs : List Exchange). x ∷ xs) held.3.0, held.0, sym held.3.1, subst (CanReply op) (sym held.3.1) held.2)
      by_room false part held = absurd (other held.1)

  deed_asked : (table : TableName) (key : List Value) (deed : Deed) (part : List Exchange) (came : Reply) → Held manner (asks_deed table key deed) part came → (came ≡ replies.Memory → ⊥) → IsAsked (op_of table key deed) came part
  deed_asked table key deed.Erase part came held other = tried_asked (ops.Erase table key) tt part came held other
  deed_asked table key (deed.Replace row) part came held other = tried_asked (ops.Replace table key row) tt part came held other
  deed_asked table key (deed.Insert row) part came held other = tried_asked (ops.Insert table key row) tt part came held other

  -- what comes of a change that is not refused: it is done, or a row of an index part is there
  abbrev IsSo : Planned → Reply → Type 0
  IsSo change replies.Done = Unit {0}
  IsSo change replies.Exists = is_own change ≡ false
  IsSo change reply = ⊥

  was_done : (change : Planned) (reply : Reply) (part : List Exchange) (done : Unit {0}) → Held manner (done_by shapes change reply) part (Ok done) → IsSo change reply × (part ≡ [])
  unfolding Held
  was_done change replies.Done part done held = (tt, held.0)
  was_done change replies.Exists part done held = by_own (is_own change) refl held
    where
      by_own : (own : Bool) → is_own change ≡ own → Held {A = Result (Unit {0}) _} manner (if own then with_room no_room (over (Err (present shapes change.table change.key))) else over (Ok tt)) part (Ok done) → (is_own change ≡ false) × (part ≡ [])
      by_own true is held = absurd (ok_err done _ (held_room manner no_room (over (Err (present shapes change.table change.key))) part done held).1)
      by_own false is held = (is, held.0)
  was_done change replies.Missing part done held = absurd (ok_err done _ held.1)
  was_done change replies.Memory part done held = absurd (ok_err done _ held.1)
  was_done change (replies.TimedOut holder what asked on) part done held = absurd (ok_err done _ held.1)
  was_done change (replies.Victim cycle) part done held = absurd (ok_err done _ held.1)
  was_done change reply part done held = absurd held

  not_memory : (change : Planned) (reply : Reply) → IsSo change reply → reply ≡ replies.Memory → ⊥
  not_memory change reply so is = subst (IsSo change) is so

  -- a row is there for insertions alone
  made_so : (change : Planned) (deed : Deed) (reply : Reply) → change.deed ≡ deed → CanReply (op_of change.table change.key deed) reply → IsSo change reply → IsMadeBy change reply
  made_so change deed replies.Done is can so = tt
  made_so change deed.Erase replies.Exists is can so = absurd can
  made_so change (deed.Replace row) replies.Exists is can so = absurd can
  made_so change (deed.Insert row) replies.Exists is can so = (so, ap is_insert is)
  made_so change deed reply is can so = absurd so

  one_asked : (change : Planned) (part : List Exchange) (done : Unit {0}) → Held manner (writes_one shapes change) part (Ok done)
      → (x : Exchange) × (part ≡ x ∷ []) × (x.op ≡ op_of change.table change.key change.deed) × IsMadeBy change x.reply
  unfolding writes_one
  one_asked change part done held =
      let h = held_both manner (asks_deed change.table change.key change.deed) (done_by shapes change) part (Ok done) held in
      let was = was_done change h.came h.second done h.more in
      let one = deed_asked change.table change.key change.deed h.first h.came h.held (not_memory change h.came was.0) in
      (one.0, h.parts ∙ ap (λ (xs : List Exchange). h.first ++ xs) was.1 ∙ append-nil h.first ∙ one.1, one.2, subst (IsMadeBy change) (sym one.3) (made_so change change.deed h.came refl one.4 was.0))

  all_made : (changes : List Planned) (part : List Exchange) (done : Unit {0}) → Held manner (writes_all shapes changes) part (Ok done) → AreMade changes part
  unfolding Held writes_all
  all_made [] part done held = held.0
  all_made (change ∷ changes) part done held =
      let h = held_ok manner (writes_one shapes change) (λ done. writes_all shapes changes) part done held in
      let one = one_asked change h.first h.came h.held in (
        one.0,
        h.second,
        h.parts ∙ ap (λ (xs : List Exchange). xs ++ h.second) one.1,
        one.2,
        one.3,
        all_made changes h.second done h.more,
      )

pub writes_make : WritesMake
writes_make manner shapes changes part held = all_made manner shapes changes part tt held

-- ---- no transaction and no statement ends between them

reply_goes : (change : Planned) (reply : Reply) → IsMadeBy change reply → is_ended reply ≡ false
reply_goes change replies.Done made = refl
reply_goes change replies.Exists made = refl
reply_goes change reply made = absurd made

deed_goes : (table : TableName) (key : List Value) (deed : Deed) → is_relax (op_of table key deed) ≡ false
deed_goes table key deed.Erase = refl
deed_goes table key (deed.Replace row) = refl
deed_goes table key (deed.Insert row) = refl

pub made_goes : (changes : List Planned) (part : List Exchange) → AreMade changes part → NoneEnds part
made_goes [] part made = subst NoneEnds (sym made) tt
made_goes (change ∷ changes) part made = subst NoneEnds (sym made.2) (reply_goes change made.0.reply made.4, made_goes changes made.1 made.5)

pub made_stays : (changes : List Planned) (part : List Exchange) → AreMade changes part → NoRelax part
made_stays [] part made = subst NoRelax (sym made) tt
made_stays (change ∷ changes) part made = subst NoRelax (sym made.2) (ap is_relax made.3 ∙ deed_goes change.table change.key change.deed, made_stays changes made.1 made.5)

-- ---- what they leave

-- one that was done stands behind the others
deed_adds : (table : TableName) (key : List Value) (deed : Deed) (stand : Progress) → (progress_after stand (op_of table key deed) replies.Done).own ≡ stand.own ++ (record { table = table; key = key; deed = deed }) ∷ []
deed_adds table key deed.Erase stand = refl
deed_adds table key (deed.Replace row) stand = refl
deed_adds table key (deed.Insert row) stand = refl

-- an insertion is fresh where it was done, and finds a row where it was not
abbrev ComesTo : Database → Planned → Reply → Type 0
ComesTo db change replies.Done = IfSo (inserts change) (db change.table change.key ≡ None)
ComesTo db change replies.Exists = IfSo (inserts change) (IsSome (db change.table change.key))
ComesTo db change reply = Unit {0}

deed_fresh : (db : Database) (table : TableName) (key : List Value) (deed : Deed) (reply : Reply) → FreshIn db (op_of table key deed) reply → ComesTo db (record { table = table; key = key; deed = deed }) reply
deed_fresh db table key deed.Erase replies.Done fresh = tt
deed_fresh db table key (deed.Replace row) replies.Done fresh = tt
deed_fresh db table key (deed.Insert row) replies.Done fresh = fresh
deed_fresh db table key deed.Erase replies.Exists fresh = tt
deed_fresh db table key (deed.Replace row) replies.Exists fresh = tt
deed_fresh db table key (deed.Insert row) replies.Exists fresh = fresh
deed_fresh db table key deed reply fresh = tt

none_some : (o : Option (List Value)) → o ≡ None → IsSome o → ⊥
none_some o none some = let no : false ≡ true = sym (ap is_some none) ∙ some in cc

-- so one that comes to a free key was done
was_made : (db : Database) (change : Planned) (reply : Reply) → IsMadeBy change reply → ComesTo db change reply → IfSo (inserts_into_part change) (db change.table change.key ≡ None) → reply ≡ replies.Done
was_made db change replies.Done made comes free = refl
was_made db change replies.Exists made comes free =
    let meant : inserts_into_part change ≡ true = ap (λ (b : Bool). not b && is_insert change.deed) made.0 ∙ made.1 in
    absurd (none_some (db change.table change.key) (subst (λ (b : Bool). IfSo b (db change.table change.key ≡ None)) meant free) (subst (λ (b : Bool). IfSo b (IsSome (db change.table change.key))) made.1 comes))
was_made db change reply made comes free = absurd made

module _ (log : List Logged) (mine : List Exchange) (fresh : inserts_fresh log mine) where
  abbrev Left : List Exchange → List Exchange → List Exchange → List Planned → Type 0
  Left before part later changes = (at_place log (before ++ part) later ≡ behind (at_place log before later) changes) × ComeFree inserts (at_place log before later) changes

  -- with one more
  one_more : (before later : List Exchange) (x : Exchange) (change : Planned) → x.op ≡ op_of change.table change.key change.deed → x.reply ≡ replies.Done → at_place log (before ++ x ∷ []) later ≡ with_change (at_place log before later) (change_of change)
  one_more before later x change asked done =
      let base : Database = State (take (place_of (length log) later) log) in
      let own : (progress_of (before ++ x ∷ [])).own ≡ (progress_of before).own ++ change ∷ [] =
      ap (λ (p : Progress). p.own) (from_both none_open before (x ∷ []))
      ∙ ap (λ (op : Op). (progress_after (progress_of before) op x.reply).own) asked
      ∙ ap (λ (reply : Reply). (progress_after (progress_of before) (op_of change.table change.key change.deed) reply).own) done
      ∙ deed_adds change.table change.key change.deed (progress_of before) in
      ap (λ (own : List Planned). With base (map change_of own)) own
      ∙ ap (With base) (map-append change_of (progress_of before).own (change ∷ []))
      ∙ With-append base (map change_of (progress_of before).own) (change_of change ∷ [])

  -- of one change in front of others
  one_left : (change : Planned) (changes : List Planned) (before rest later : List Exchange) (x : Exchange) → mine ≡ before ++ x ∷ (rest ++ later) → x.op ≡ op_of change.table change.key change.deed → IsMadeBy change x.reply → NoneEnds rest
      → ComeFree inserts_into_part (at_place log before later) (change ∷ changes)
      → (mine ≡ (before ++ x ∷ []) ++ (rest ++ later) → ComeFree inserts_into_part (at_place log (before ++ x ∷ []) later) changes → Left (before ++ x ∷ []) rest later changes) → Left before (x ∷ rest) later (change ∷ changes)
  one_left change changes before rest later x split asked by goes free on =
      (ap (λ (xs : List Exchange). at_place log xs later) (sym (append_assoc before (x ∷ []) rest)) ∙ left.0 ∙ ap (λ (d : Database). behind d changes) next, (own_free, subst (λ (d : Database). ComeFree inserts d changes) next left.1))
    where
      db : Database
      db = at_place log before later

      comes : ComesTo db change x.reply
      comes = deed_fresh db change.table change.key change.deed x.reply
          (subst (λ (op : Op). FreshIn db op x.reply) asked
          (subst (λ (n : ℕ). FreshIn (view log n before) x.op x.reply) (place_past (length log) rest later goes) (fresh before x (rest ++ later) split)))

      done : x.reply ≡ replies.Done
      done = was_made db change x.reply by comes free.0

      own_free : IfSo (inserts change) (db change.table change.key ≡ None)
      own_free = subst (ComesTo db change) done comes

      next : at_place log (before ++ x ∷ []) later ≡ with_change db (change_of change)
      next = one_more before later x change asked done

      left : Left (before ++ x ∷ []) rest later changes
      left = on (split ∙ sym (append_assoc before (x ∷ []) (rest ++ later))) (subst (λ (d : Database). ComeFree inserts_into_part d changes) (sym next) free.1)

  all_left : (changes : List Planned) (before part later : List Exchange) → mine ≡ before ++ (part ++ later) → AreMade changes part → ComeFree inserts_into_part (at_place log before later) changes → Left before part later changes
  all_left [] before part later is made free = (ap (λ (xs : List Exchange). at_place log xs later) (ap (λ (xs : List Exchange). before ++ xs) made ∙ append-nil before), tt)
  all_left (change ∷ changes) before part later is (x, rest, parts, asked, by, made) free =
      subst (λ (xs : List Exchange). Left before xs later (change ∷ changes)) (sym parts)
      (one_left change changes before rest later x (is ∙ ap (λ (xs : List Exchange). before ++ (xs ++ later)) parts) asked by (made_goes changes rest made) free
      (λ split free. all_left changes (before ++ x ∷ []) rest later split made free))

pub made_leave : MadeLeave
made_leave log mine before part later changes is fresh made free = all_left log mine fresh changes before part later is made free

-- ---- fresh insertions

-- those behind others come to free keys of the database behind these
free_behind : (meant : Planned → Bool) (front more : List Planned) (db : Database) → ComeFree meant db (front ++ more) → ComeFree meant (behind db front) more
free_behind meant [] more db free = free
free_behind meant (change ∷ front) more db free = free_behind meant front more (with_change db (change_of change)) free.1

pub free_before : (meant : Planned → Bool) (front more : List Planned) (db : Database) → ComeFree meant db (front ++ more) → ComeFree meant db front
free_before meant [] more db free = tt
free_before meant (change ∷ front) more db free = (free.0, free_before meant front more (with_change db (change_of change)) free.1)

pub free_both : (meant : Planned → Bool) (front more : List Planned) (db : Database) → ComeFree meant db front → ComeFree meant (behind db front) more → ComeFree meant db (front ++ more)
free_both meant [] more db first second = second
free_both meant (change ∷ front) more db first second = (first.0, free_both meant front more (with_change db (change_of change)) first.1 second)

-- what is erased, as it is seen at each key
module _ (table : TableName) (key_of kept : OfRow) (skips : Row → Row → Bool) where
  abbrev pub erases_of : RowChange → List Planned
  erases_of change = deeds_erased table key_of kept skips change.old change.new

  abbrev pub writes_of : RowChange → List Planned
  writes_of change = deeds_written table key_of kept skips change.old change.new

  erased_alike : (old new : Option Row) → map change_of (deeds_erased table key_of kept skips old new) ≡ erased_by table key_of kept skips old new
  erased_alike None new = refl
  erased_alike (Some old) None = refl
  erased_alike (Some old) (Some new) = by_stays (same (key_of new) (key_of old))
    where
      by_stays : (b : Bool) → map change_of (erases_if table key_of kept skips b old) ≡ erased_if table key_of kept skips b old
      by_stays true = refl
      by_stays false = refl

  pub all_erased : (changes : List RowChange) → map change_of (flat_map erases_of changes) ≡ flat_map (λ change. erased_by table key_of kept skips change.old change.new) changes
  all_erased [] = refl
  all_erased (change ∷ changes) =
      map-append change_of (erases_of change) (flat_map erases_of changes)
      ∙ ap (λ (list : List Change). list ++ map change_of (flat_map erases_of changes)) (erased_alike change.old change.new)
      ∙ ap (λ (list : List Change). erased_by table key_of kept skips change.old change.new ++ list) (all_erased changes)

module _ (table : TableName) (key_of : OfRow) where
  written_fresh : (changes : List RowChange) (db : Database) → ComeFree inserts db (flat_map (writes_of table key_of itself never) changes) → FreshRows table key_of db changes
  written_fresh [] db free = tt
  written_fresh (change ∷ changes) db free = by_rows change.old change.new free (written_fresh changes)
    where
      Rest : Type 0
      Rest = (next : Database) → ComeFree inserts next (flat_map (writes_of table key_of itself never) changes) → FreshRows table key_of next changes

      by_stays : (old new : Row) (b : Bool) → same (key_of new) (key_of old) ≡ b → ComeFree inserts db (rewrites_if table key_of itself never b old new ++ flat_map (writes_of table key_of itself never) changes) → Rest
          → FreshOne key_of (db table) (Some old) (Some new) × FreshRows table key_of (With db (rewritten_if table key_of itself never b old new)) changes
      by_stays old new true stays free rest = ((λ moves. absurd (let no : false ≡ true = sym moves ∙ stays in cc)), rest (with_change db (change_of (replaces table key_of itself never old new))) free.1)
      by_stays old new false moves free rest = ((λ apart. free.0), rest (with_change db (change_of (inserts_row table key_of itself never new))) free.1)

      by_rows : (old new : Option Row) → ComeFree inserts db (deeds_written table key_of itself never old new ++ flat_map (writes_of table key_of itself never) changes) → Rest
          → FreshOne key_of (db table) old new × FreshRows table key_of (With db (written_by table key_of itself never old new)) changes
      by_rows None None free rest = (tt, rest db free)
      by_rows (Some old) None free rest = (tt, rest db free)
      by_rows None (Some new) free rest = (free.0, rest (with_change db (change_of (inserts_row table key_of itself never new))) free.1)
      by_rows (Some old) (Some new) free rest = by_stays old new (same (key_of new) (key_of old)) refl free rest

pub free_fresh : FreeFresh
free_fresh db table key_of changes more free =
    let erased : List Planned = flat_map (erases_of table key_of itself never) changes in
    let written : List Planned = flat_map (writes_of table key_of itself never) changes in
    subst (λ (list : List Change). FreshRows table key_of (With db list) changes) (all_erased table key_of itself never changes)
    (written_fresh table key_of changes (behind db erased) (free_behind inserts erased written db (free_before inserts (erased ++ written) more db free)))

-- ---- the rows that a write takes

-- one of the changes that were made, with its exchange
record WasMade (P : Planned → Type 0) (put : List Exchange) : Type 0 where
  pub change : Planned
  pub is : P change
  pub front : List Exchange
  pub x : Exchange
  pub back : List Exchange
  pub split : put ≡ front ++ x ∷ back
  pub asked : x.op ≡ op_of change.table change.key change.deed
  pub made : IsMadeBy change x.reply
  pub goes : NoneEnds front
  pub stays : NoRelax front

found_made : (P : Planned → Type 0) (changes : List Planned) (put : List Exchange) → Among P changes → AreMade changes put → WasMade P put
found_made P [] put none made = absurd none
found_made P (change ∷ changes) put (inl here) (x, rest, parts, asked, by, made) = record { change = change; is = here; front = []; x = x; back = rest; split = parts; asked = asked; made = by; goes = tt; stays = tt }
found_made P (change ∷ changes) put (inr later) (x, rest, parts, asked, by, made) =
    let on = found_made P changes rest later made in
    record {
      change = on.change;
      is = on.is;
      front = x ∷ on.front;
      x = on.x;
      back = on.back;
      split = parts ∙ ap (λ (xs : List Exchange). x ∷ xs) on.split;
      asked = on.asked;
      made = on.made;
      goes = (reply_goes change x.reply by, on.goes);
      stays = (ap is_relax asked ∙ deed_goes change.table change.key change.deed, on.stays);
    }

-- a change that takes the row at a key
abbrev TakesAt : TableName → List Value → Planned → Type 0
TakesAt table key change = (change.table ≡ table) × (change.key ≡ key) × (is_insert change.deed ≡ false)

among_left : {A : Type 0} (P : A → Type 0) (xs ys : List A) → Among P xs → Among P (xs ++ ys)
among_left P [] ys none = absurd none
among_left P (x ∷ xs) ys (inl here) = inl here
among_left P (x ∷ xs) ys (inr later) = inr (among_left P xs ys later)

among_right : {A : Type 0} (P : A → Type 0) (xs ys : List A) → Among P ys → Among P (xs ++ ys)
among_right P [] ys among = among
among_right P (x ∷ xs) ys among = inr (among_right P xs ys among)

module _ (table : TableName) (key_of : OfRow) where
  -- the erasure of a row that is taken, or its replacement
  row_taken : (changes : List RowChange) (row : Row) → IsOld row changes → Among (TakesAt table (key_of row)) (flat_map (erases_of table key_of itself never) changes) ⊎ Among (TakesAt table (key_of row)) (flat_map (writes_of table key_of itself never) changes)
  row_taken [] row none = absurd none
  row_taken (first ∷ changes) row (inl is) = subst (λ (o : Option Row). Taken o first.new) (sym is) (by_new first.new)
    where
      Taken : Option Row → Option Row → Type 0
      Taken old new = Among (TakesAt table (key_of row)) (deeds_erased table key_of itself never old new ++ flat_map (erases_of table key_of itself never) changes)
          ⊎ Among (TakesAt table (key_of row)) (deeds_written table key_of itself never old new ++ flat_map (writes_of table key_of itself never) changes)

      by_stays : (new : Row) (b : Bool) → Among (TakesAt table (key_of row)) (erases_if table key_of itself never b row ++ flat_map (erases_of table key_of itself never) changes)
          ⊎ Among (TakesAt table (key_of row)) (rewrites_if table key_of itself never b row new ++ flat_map (writes_of table key_of itself never) changes)
      by_stays new true = inr (inl (refl, refl, refl))
      by_stays new false = inl (inl (refl, refl, refl))

      by_new : (new : Option Row) → Taken (Some row) new
      by_new None = inl (inl (refl, refl, refl))
      by_new (Some new) = by_stays new (same (key_of new) (key_of row))
  row_taken (first ∷ changes) row (inr later) = elim (row_taken changes row later) [
    | inl erased ↦ inl (among_right (TakesAt table (key_of row)) (erases_of table key_of itself never first) (flat_map (erases_of table key_of itself never) changes) erased)
    | inr written ↦ inr (among_right (TakesAt table (key_of row)) (writes_of table key_of itself never first) (flat_map (writes_of table key_of itself never) changes) written)
  ]

  deed_taken : (changes : List RowChange) (more : List Planned) (row : Row) → IsOld row changes → Among (TakesAt table (key_of row)) (deeds_by table key_of itself never changes ++ more)
  deed_taken changes more row old =
      among_left (TakesAt table (key_of row)) (deeds_by table key_of itself never changes) more (elim (row_taken changes row old) [
        | inl erased ↦ among_left (TakesAt table (key_of row)) (flat_map (erases_of table key_of itself never) changes) (flat_map (writes_of table key_of itself never) changes) erased
        | inr written ↦ among_right (TakesAt table (key_of row)) (flat_map (erases_of table key_of itself never) changes) (flat_map (writes_of table key_of itself never) changes) written
      ])

-- what was made of it was written at that key
made_done : (change : Planned) (reply : Reply) → IsMadeBy change reply → is_insert change.deed ≡ false → reply ≡ replies.Done
made_done change replies.Done made taken = refl
made_done change replies.Exists made taken = absurd (let no : false ≡ true = sym taken ∙ made.1 in cc)
made_done change reply made taken = absurd made

deed_writes : (table : TableName) (key : List Value) (deed : Deed) → is_insert deed ≡ false → WritesAt (op_of table key deed) replies.Done table key
deed_writes table key deed.Erase taken = (refl, refl)
deed_writes table key (deed.Replace row) taken = (refl, refl)
deed_writes table key (deed.Insert row) taken = absurd (let no : true ≡ false = taken in cc)

was_written : (table : TableName) (key : List Value) (put : List Exchange) (was : WasMade (TakesAt table key) put) → WritesAt was.x.op was.x.reply table key
was_written table key put was =
    let done : was.x.reply ≡ replies.Done = made_done was.change was.x.reply was.made was.is.2 in
    subst (λ (op : Op). WritesAt op was.x.reply table key) (sym was.asked)
    (subst (λ (reply : Reply). WritesAt (op_of was.change.table was.change.key was.change.deed) reply table key) (sym done)
    (subst (λ (k : List Value). WritesAt (op_of was.change.table was.change.key was.change.deed) replies.Done table k) was.is.1
    (subst (λ (t : TableName). WritesAt (op_of was.change.table was.change.key was.change.deed) replies.Done t was.change.key) was.is.0
    (deed_writes was.change.table was.change.key was.change.deed was.is.2))))

pub taken_stand : TakenStand
taken_stand begin log mine before part between put later level shape range changes more row is rise current stable fetches goes stays made old taken =
    let key : List Value = key_of shape row in
    let was = found_made (TakesAt range.table key) (deeds_by range.table (key_of shape) itself never changes ++ more) put (deed_taken range.table (key_of shape) changes more row old) made in
    let all : between ++ (put ++ later) ≡ (between ++ was.front) ++ was.x ∷ (was.back ++ later) =
    ap (λ (xs : List Exchange). between ++ (xs ++ later)) was.split ∙ ap (λ (xs : List Exchange). between ++ xs) (append_assoc was.front (was.x ∷ was.back) later) ∙ sym (append_assoc between was.front (was.x ∷ (was.back ++ later))) in
    let split : mine ≡ before ++ (part ++ ((between ++ was.front) ++ was.x ∷ (was.back ++ later))) = is ∙ ap (λ (xs : List Exchange). before ++ (part ++ xs)) all in
    let on : NoneEnds ((between ++ was.front) ++ was.x ∷ []) = both_end (between ++ was.front) (was.x ∷ []) (both_end between was.front goes was.goes) (reply_goes was.change was.x.reply was.made, tt) in
    let stands : at_place log (before ++ part) ((between ++ was.front) ++ was.x ∷ (was.back ++ later)) range.table key ≡ Some taken.0.1 =
    told_stands begin log mine before part (between ++ was.front) (was.back ++ later) was.x level range.table range.stop taken.0 key split rise current stable fetches taken.3 on (both_relax between was.front stays was.stays)
    taken.2 (was_written range.table key put was) in
    ap (λ (xs : List Exchange). at_place log (before ++ part) xs range.table key) all ∙ stands ∙ ap Some taken.1
