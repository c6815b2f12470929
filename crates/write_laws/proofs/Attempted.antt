-- What a write leaves that keeps index parts.
use Rattle.std.proofs.Common.{◌≡◌, refl, sym, ap, ◌∙◌, subst, inl, inr, ℕ, Bool, true, false, not, ◌&&◌, nat_eq, if◌then◌else◌, List, [], ◌∷◌, ◌++◌, length, map, take, Some, None, append-nil, append_assoc}
use Rattle.std.specs.List.{AllByRecursion}
use Rattle.lock_modes.specs.declared.KeyPart.TheVariants.{U}
use Rattle.value_types.specs.declared.table_name.TableName.{TableName}
use Rattle.value_types.specs.declared.value.Value.{Value}
use Rattle.tsql_tree.specs.declared.definition.TableTree.{TableTree}
use Rattle.step_model.specs.declared.change.Planned.{Planned}
use Rattle.step_model.specs.declared.manner.Manner.{Manner}
use Rattle.step_model.specs.declared.op.Hold.TheVariants.{Range}
use Rattle.step_model.specs.declared.op.Op.{Op}
use Rattle.step_model.specs.declared.op.Op.TheVariants as ops
use Rattle.step_model.specs.declared.range.KeyRange.{KeyRange}
use Rattle.step_model.specs.declared.reply.Reply.{Reply}
use Rattle.step_model.specs.declared.reply.Reply.TheVariants as replies
use Rattle.step_model.specs.Database.{Database, With}
use Rattle.step_model.specs.Exchange.{CanReply, Exchange}
use Rattle.step_model.specs.Fits.{NoRelax, NoneEnds, fetches_current, inserts_fresh, is_ended, is_relax, numbers_rise, place_of, ranges_hold, targets_stable}
use Rattle.step_model.specs.Log.{Commit as Logged, State}
use Rattle.step_model.specs.Own.{Progress, change_of, is_insert, is_own, none_open, progress_after, progress_of}
use Rattle.history_laws.proofs.Splits.{progress_more}
use Rattle.index_laws.specs.Deeds.{deeds_by, rows_added, rows_gone, rows_set}
use Rattle.index_laws.specs.Laws.{FreshRows, erasures_of, itself, never}
use Rattle.index_laws.specs.Parts.{IsOld, RowChange}
use Rattle.index_laws.proofs.Found.{some_is}
use Rattle.table_rows.specs.Rows.{key_of, rows_table}
use Rattle.constraint_check.specs.Laws.{behind}
use Rattle.constraint_check.proofs.Lists.{all_more}
use Rattle.dml_exec.specs.declared.refusal.Level.{Level}
use Rattle.dml_exec.specs.declared.rewritten.Rewritten.{Rewritten}
use Rattle.dml_exec.specs.declared.rewritten.Rewritten.TheVariants.{Inserted, Set, Erased}
use Rattle.dml_exec.specs.Filling.{Row}
use Rattle.dml_exec.specs.Reading.{hold_at}
use Rattle.dml_exec.specs.Planning.{as_found, as_told, asked_of, index_deeds, is_asked, row_changes_of}
use Rattle.statement_paths.specs.Asked.{AskOnly, IsFetch}
use Rattle.write_laws.specs.Attempted.{IsMade, WriteFollows, plan_of}
use Rattle.write_laws.specs.Indexed.{Indexed, own_rows}
use Rattle.write_laws.specs.IndexKeys.{stood_at}
use Rattle.write_laws.specs.Indexing.{CanChange, IsReady, StandsThere, row_deeds}
use Rattle.write_laws.specs.Made.{AreMade, ComeFree, inserts, inserts_into_part}
use Rattle.write_laws.specs.Reads.{HoldsIt, KeysHave, at_place}
use Rattle.write_laws.specs.Rewrites.{IsTaken, rows_taken}
use Rattle.write_laws.specs.Sound.{Firm, IsTableOf}
use Rattle.write_laws.proofs.Changes.{kept_both, none_kept}
use Rattle.write_laws.proofs.IndexKeys.{asked_stand, found_all, keys_asked, keys_told}
use Rattle.write_laws.proofs.Indexing.{deeds_there, index_free, indexed_written, own_free}
use Rattle.write_laws.proofs.Made.{free_both, free_fresh, made_goes, made_leave, taken_stand}
use Rattle.write_laws.proofs.Parts.{fetches_leave, one_place}
use Rattle.write_laws.proofs.Rewrites.{taken_apart}
use Rattle.write_laws.proofs.TargetStands.{both_end, both_relax, no_relax, place_past}

-- ---- the rows that are taken

module _ (P : Row → Type 0) where
  added_old : (rows : List Row) (row : Row) → IsOld row (rows_added rows) → ⊥
  added_old [] row none = none
  added_old (new ∷ rows) row (inl here) = let no : None ≡ Some row = here in cc
  added_old (new ∷ rows) row (inr later) = added_old rows row later

  gone_old : (rows : List Row) (row : Row) → AllByRecursion P rows → IsOld row (rows_gone rows) → P row
  gone_old [] row all none = absurd none
  gone_old (old ∷ rows) row all (inl here) = subst P (some_is here) all.0
  gone_old (old ∷ rows) row all (inr later) = gone_old rows row all.1 later

  set_old : (olds news : List Row) (row : Row) → AllByRecursion P olds → IsOld row (rows_set olds news) → P row
  set_old [] news row all none = absurd none
  set_old (old ∷ olds) [] row all none = absurd none
  set_old (old ∷ olds) (new ∷ news) row all (inl here) = subst P (some_is here) all.0
  set_old (old ∷ olds) (new ∷ news) row all (inr later) = set_old olds news row all.1 later

  old_of : (rows : Rewritten) (row : Row) → AllByRecursion P (rows_taken rows) → IsOld row (row_changes_of rows) → P row
  old_of (Inserted rows) row all old = absurd (added_old rows row old)
  old_of (Set olds news) row all old = set_old olds news row all old
  old_of (Erased rows) row all old = gone_old rows row all old

-- ---- changes as they were found

found_none : (changes : List Planned) → as_found changes [] ≡ changes
found_none [] = refl
found_none (change ∷ changes) = refl

-- own rows are not asked for
found_own : (own rest : List Planned) (found : List Bool) → AllByRecursion (λ change. is_own change ≡ true) own → as_found (own ++ rest) found ≡ own ++ as_found rest found
found_own [] rest found all = refl
found_own (change ∷ own) rest [] all = ap (λ (l : List Planned). change ∷ (own ++ l)) (sym (found_none rest))
found_own (change ∷ own) rest (there ∷ found) all =
    let unasked : is_asked change ≡ false = ap (λ (b : Bool). not b && not (is_insert change.deed)) all.0 in
    ap (λ (b : Bool). if b then as_told there change ++ as_found (own ++ rest) found else change ∷ as_found (own ++ rest) (there ∷ found)) unasked
    ∙ ap (λ (l : List Planned). change ∷ l) (found_own own rest (there ∷ found) all.1)

-- ---- exchanges taken apart

record Split (xs ys : List Planned) (put : List Exchange) : Type 0 where
  pub first : List Exchange
  pub second : List Exchange
  pub parts : put ≡ first ++ second
  pub front : AreMade xs first
  pub back : AreMade ys second

made_split : (xs ys : List Planned) (put : List Exchange) → AreMade (xs ++ ys) put → Split xs ys put
made_split [] ys put made = record { first = []; second = put; parts = refl; front = refl; back = made }
made_split (change ∷ xs) ys put (x, rest, is, asked, by, made) =
    let on = made_split xs ys rest made in
    record { first = x ∷ on.first; second = on.second; parts = is ∙ ap (λ (l : List Exchange). x ∷ l) on.parts; front = (x, on.first, refl, asked, by, on.front); back = on.back }

-- ---- a mark

mark_goes : (reply : Reply) → CanReply ops.Mark reply → is_ended reply ≡ false
mark_goes (replies.Marked mark) can = refl
mark_goes replies.Memory can = refl
mark_goes reply can = absurd can

mark_own : (stand : Progress) (reply : Reply) → CanReply ops.Mark reply → (progress_after stand ops.Mark reply).own ≡ stand.own
mark_own stand (replies.Marked mark) can = refl
mark_own stand replies.Memory can = append-nil stand.own
mark_own stand reply can = absurd can

mark_stays : (before : List Exchange) (mark : Exchange) → mark.op ≡ ops.Mark → CanReply ops.Mark mark.reply → (progress_of (before ++ mark ∷ [])).own ≡ (progress_of before).own
mark_stays before mark is can =
    ap (λ (p : Progress). p.own) (progress_more none_open before mark) ∙ ap (λ (op : Op). (progress_after (progress_of before) op mark.reply).own) is ∙ mark_own (progress_of before) mark.reply can

-- ---- fetches that hold their ranges

hold_fetch : (op : Op) → HoldsIt op → IsFetch op
hold_fetch (ops.Fetch table start stop Range part) holds = tt
hold_fetch op holds = absurd holds

-- ---- the write

module _ (begin log : List Logged) (mine before reads between keys put later : List Exchange) (mark : Exchange) (manner : Manner) (level : Level) (range : KeyRange) (shape : TableTree) (equal : List Value → List Value → Bool) (rows : Rewritten)
    (more : List Planned) (found : List Bool) (numbers : numbers_rise begin log mine) (fetches : fetches_current log mine) (ranges : ranges_hold log mine) (fresh_inserts : inserts_fresh log mine) (targets : targets_stable log mine)
    (is : IsMade mine before reads between keys put later mark manner level range shape equal rows more found) (decides : (a b : List Value) → equal a b ≡ true → a ≡ b) (firm : Firm (own_rows (at_place log ((before ++ reads) ++ between) later)))
    (indexed : Indexed (at_place log ((before ++ reads) ++ between) later)) (defined : IsTableOf (at_place log ((before ++ reads) ++ between) later) shape) where
  abbrev front : List Exchange
  front = (before ++ reads) ++ between

  abbrev tail : List Exchange
  tail = keys ++ mark ∷ []

  abbrev start : List Exchange
  start = front ++ tail

  abbrev db : Database
  db = at_place log front later

  abbrev changes : List RowChange
  changes = row_changes_of rows

  abbrev own_deeds : List Planned
  own_deeds = row_deeds shape changes

  abbrev row_plan : List Planned
  row_plan = plan_of shape equal rows

  abbrev plan : List Planned
  plan = row_plan ++ more

  abbrev index_found : List Planned
  index_found = as_found (index_deeds shape equal changes ++ more) found

  are_own : AllByRecursion (λ change. is_own change ≡ true) own_deeds
  are_own =
      all_more (λ (change : Planned). change.table ≡ rows_table shape.name) (λ (change : Planned). is_own change ≡ true) (λ change is. ap (λ (t : TableName). nat_eq t.part 0) is) own_deeds
      (deeds_there (rows_table shape.name) (key_of shape) itself never changes)

  made : AreMade (own_deeds ++ index_found) put
  made =
      subst (λ (l : List Planned). AreMade l put)
      (ap (λ (l : List Planned). as_found l found) (append_assoc own_deeds (index_deeds shape equal changes) more) ∙ found_own own_deeds (index_deeds shape equal changes ++ more) found are_own) is.makes

  parts : Split own_deeds index_found put
  parts = made_split own_deeds index_found put made

  -- ---- nothing ends between

  keys_fetch : AskOnly IsFetch keys
  keys_fetch =
      all_more (λ (x : Exchange). HoldsIt x.op × CanReply x.op x.reply) (λ (x : Exchange). IsFetch x.op × CanReply x.op x.reply) (λ x held. (hold_fetch x.op held.0, held.1)) keys
      (keys_asked manner plan keys found is.asks)

  between_end : NoneEnds between
  between_end = (fetches_leave (before ++ reads) between is.between_fetch).goes_on

  keys_leave : (progress_of (front ++ keys)).own ≡ (progress_of front).own
  keys_leave = (fetches_leave front keys keys_fetch).own

  mark_end : NoneEnds (mark ∷ [])
  mark_end = (mark_goes mark.reply is.marked, tt)

  tail_end : NoneEnds tail
  tail_end = both_end keys (mark ∷ []) (fetches_leave front keys keys_fetch).goes_on mark_end

  put_end : NoneEnds put
  put_end = made_goes (as_found plan found) put is.makes

  none_relax : NoRelax (between ++ tail)
  none_relax = both_relax between tail (no_relax between is.between_fetch) (both_relax keys (mark ∷ []) (no_relax keys keys_fetch) (ap is_relax is.marks, tt))

  -- ---- one database

  own_start : (progress_of start).own ≡ (progress_of front).own
  own_start = ap (λ (xs : List Exchange). (progress_of xs).own) (sym (append_assoc front keys (mark ∷ []))) ∙ mark_stays (front ++ keys) mark is.marks is.marked ∙ keys_leave

  abbrev With_own : List Planned → Database
  With_own own = With (State (take (place_of (length log) later) log)) (map change_of own)

  db_start : at_place log start later ≡ db
  db_start = ap With_own own_start

  db_told : at_place log (before ++ reads) ((between ++ tail) ++ (put ++ later)) ≡ db
  db_told =
      ap (λ (n : ℕ). With (State (take n log)) (map change_of (progress_of (before ++ reads)).own))
      (place_past (length log) (between ++ tail) (put ++ later) (both_end between tail between_end tail_end) ∙ place_past (length log) put later put_end)
      ∙ ap With_own (sym (fetches_leave (before ++ reads) between is.between_fetch).own)

  db_asked : at_place log front (mark ∷ (put ++ later)) ≡ db
  db_asked = ap (λ (n : ℕ). With (State (take n log)) (map change_of (progress_of front).own)) (place_past (length log) (mark ∷ []) (put ++ later) mark_end ∙ place_past (length log) put later put_end)

  db_rows : at_place log start (parts.second ++ later) ≡ db
  db_rows = ap (λ (n : ℕ). With (State (take n log)) (map change_of (progress_of start).own)) (place_past (length log) parts.second later (made_goes index_found parts.second parts.back)) ∙ db_start

  -- ---- where they stand

  told_split : mine ≡ before ++ (reads ++ ((between ++ tail) ++ (put ++ later)))
  told_split = is.split ∙ ap (λ (xs : List Exchange). before ++ (reads ++ xs)) (sym (append_assoc between tail (put ++ later) ∙ ap (λ (xs : List Exchange). between ++ xs) (append_assoc keys (mark ∷ []) (put ++ later))))

  keys_split : mine ≡ front ++ (keys ++ (mark ∷ (put ++ later)))
  keys_split = is.split ∙ sym (append_assoc before reads (between ++ (keys ++ mark ∷ (put ++ later)))) ∙ sym (append_assoc (before ++ reads) between (keys ++ mark ∷ (put ++ later)))

  start_split : mine ≡ start ++ (put ++ later)
  start_split = keys_split ∙ ap (λ (xs : List Exchange). front ++ xs) (sym (append_assoc keys (mark ∷ []) (put ++ later))) ∙ sym (append_assoc front tail (put ++ later))

  -- ---- the rows

  stood : (row : Row) → IsOld row changes → db (rows_table shape.name) (key_of shape row) ≡ Some row
  stood row old =
      subst (λ (t : TableName). db t (key_of shape row) ≡ Some row) is.table
      (subst (λ (d : Database). d range.table (key_of shape row) ≡ Some row) db_told
      (taken_stand begin log mine before reads (between ++ tail) put later level shape range changes index_found row told_split numbers fetches targets is.reads_fetch (both_end between tail between_end tail_end) none_relax
      (subst (λ (t : TableName). AreMade (deeds_by t (key_of shape) itself never changes ++ index_found) put) (sym is.table) made) old
      (old_of (λ (row : Row). IsTaken reads range (hold_at level) U shape row) rows row is.taken old)))

  fresh : FreshRows (rows_table shape.name) (key_of shape) (With db (erasures_of (rows_table shape.name) (key_of shape) changes)) changes
  fresh =
      let split : mine ≡ start ++ (parts.first ++ (parts.second ++ later)) = start_split ∙ ap (λ (xs : List Exchange). start ++ xs) (ap (λ (xs : List Exchange). xs ++ later) parts.parts ∙ append_assoc parts.first parts.second later) in
      let left = made_leave log mine start parts.first (parts.second ++ later) own_deeds split fresh_inserts parts.front (own_free own_deeds (at_place log start (parts.second ++ later)) are_own) in
      free_fresh db (rows_table shape.name) (key_of shape) changes []
      (subst (λ (l : List Planned). ComeFree inserts db l) (sym (append-nil own_deeds)) (subst (λ (d : Database). ComeFree inserts d own_deeds) db_rows left.1))

  can : CanChange db shape changes
  can = record { stood = stood; apart = taken_apart shape rows is.apart; fresh = fresh }

  ready : IsReady db shape equal
  ready = record { one_key = one_place log front later; firm = firm; indexed = indexed; defined = defined; decides = decides }

  -- ---- the index rows

  abbrev IsGood : Planned → Type 0
  IsGood change = StandsThere db change × KeysHave (length change.key) db change.table

  -- of the others none is asked for
  asked_same : asked_of plan ≡ asked_of row_plan
  asked_same =
      kept_both is_asked row_plan more
      ∙ ap (λ (l : List Planned). asked_of row_plan ++ l)
      (none_kept is_asked more (all_more (λ (change : Planned). is_own change ≡ true) (λ (change : Planned). is_asked change ≡ false) (λ change own. ap (λ (b : Bool). not b && not (is_insert change.deed)) own) more is.own))
      ∙ append-nil (asked_of row_plan)

  stands : AllByRecursion IsGood (asked_of plan)
  stands = subst (AllByRecursion IsGood) (sym asked_same) (asked_stand db shape equal changes ready can)

  told : found ≡ stood_at db plan
  told =
      subst (λ (d : Database). found ≡ stood_at d plan) db_asked
      (keys_told log mine front keys (mark ∷ (put ++ later)) manner plan found keys_split ranges is.asks
      (all_more IsGood (λ (change : Planned). KeysHave (length change.key) (at_place log front (mark ∷ (put ++ later))) change.table) (λ change good. subst (λ (d : Database). KeysHave (length change.key) d change.table) (sym db_asked) good.1)
      (asked_of plan) stands))

  as_planned : as_found plan found ≡ plan
  as_planned = ap (as_found plan) told ∙ found_all db plan (all_more IsGood (StandsThere db) (λ change good. good.0) (asked_of plan) stands)

  -- ---- behind

  left : at_place log (start ++ put) later ≡ behind db plan
  left =
      (made_leave log mine start put later plan start_split fresh_inserts (subst (λ (l : List Planned). AreMade l put) as_planned is.makes)
      (subst (λ (d : Database). ComeFree inserts_into_part d plan) (sym db_start)
      (free_both inserts_into_part row_plan more db (index_free db shape equal changes ready can) (own_free more (behind db row_plan) is.own)))).0
      ∙ ap (λ (d : Database). behind d plan) db_start

  follows : Indexed (behind db row_plan)
  follows = indexed_written db shape equal changes ready can

pub write_follows : WriteFollows
write_follows begin log mine before reads between keys put later mark manner level range shape equal rows more found numbers fetches ranges fresh_inserts targets is decides firm indexed defined = (
  left begin log mine before reads between keys put later mark manner level range shape equal rows more found numbers fetches ranges fresh_inserts targets is decides firm indexed defined,
  follows begin log mine before reads between keys put later mark manner level range shape equal rows more found numbers fetches ranges fresh_inserts targets is decides firm indexed defined,
)
