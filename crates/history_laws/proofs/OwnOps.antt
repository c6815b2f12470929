-- Each operation of a session keeps what is known of it, with the exchange more.
use Rattle.std.proofs.Common.{◌≡◌, ◌≢◌, inl, inr, ℕ, ◌+◌, ◌&&◌, ◌||◌, Bool, true, false, if◌then◌else◌, List, [], ◌∷◌, ◌++◌, map, Option, None, Some, is_some, IsTrue, refl, sym, ap, subst, ◌∙◌, eq-eqb, append-nil}
use Rattle.std.specs.Prelude.{is_none, nat_le}
use Rattle.std.specs.List.{AllByRecursion, filter, AllZip}
use Rattle.std.specs.Option.{option_and_then, option_map}
use Rattle.std.specs.Ordering.{is_eq}
use Rattle.std.specs.Cmp.{Equal-is, tied_itself, tied_back}
use Rattle.std.specs.declared.cmp.Ordering.{Ordering}
use Rattle.std.specs.declared.cmp.Ordering.TheVariants.{Less, Equal, Greater}
use Rattle.lock_modes.specs.declared.Pair.{Pair}
use Rattle.value_types.specs.declared.table_name.TableName.{TableName}
use Rattle.value_types.specs.declared.value.Value.{Value}
use Rattle.value_types.specs.Order.{key_cmp, table_cmp}
use Rattle.step_model.specs.declared.change.Change.{Change}
use Rattle.step_model.specs.declared.change.Planned.{Planned}
use Rattle.step_model.specs.declared.resource.Place.{Place}
use Rattle.step_model.specs.declared.resource.Place.TheVariants.{At, End}
use Rattle.step_model.specs.declared.resource.Resource.{Resource}
use Rattle.step_model.specs.declared.resource.Span.{Span}
use Rattle.step_model.specs.declared.resource.Span.TheVariants.{Statement, Transaction as Whole}
use Rattle.step_model.specs.Claims.{NoFoe, new_locks, inherits, Claim, fetch_claim, insert_claim, write_claim, claim_of, Passes, with_claim, inside_claim, past_claim}
use Rattle.step_model.specs.Database.{allows, includes, Database, With}
use Rattle.step_model.specs.Entries.{Entry, entry_at, entry_on, place_at, place_on, put_entry, pending_of, changes_by, change_at, seen_by, next_entry, resource_of, row_at}
use Rattle.step_model.specs.Exchange.{Exchange, IsPartOfFetch, MayAsk, Standing}
use Rattle.step_model.specs.Fits.{changes_of_session, without_waits, at_of, AnswersIn, FreshIn, IsCaused, numbers_of, is_ended, is_relax, is_wait, committed_by, commit_of, IsLoggedAt}
use Rattle.step_model.specs.Locks.{Lock, same_place, same_resource, has_lock, is_x, key_on, is_range}
use Rattle.step_model.specs.Log.{Commit as Logged, State}
use Rattle.step_model.specs.Moves.{without_wait, with_locks, add_locks, with_entry, new_entry, after_begin, after_mark, with_mark, after_back, cut_marks, restore, state_of_mark, after_relax, drop_statement, after_commit, after_rollback, log_with, upto_mark, set_at}
use Rattle.step_model.specs.Own.{Progress, progress_of, last_at, is_insert, change_of, own_at, progress_after, none_open}
use Rattle.step_model.specs.Runs.{MayStep, standing_of}
use Rattle.step_model.specs.State.{Engine, Saved, Transaction, locks_of, saved_of, has, is_open, transaction_in, saved_in, made_by, locks_in, victim_of}
use Rattle.step_model.specs.Step.{Does, Inserts, insert_at, write_at, StepFrom, Step, Hears, told_first, FallsAt, entry_reply, fetch_reply, insert_reply, write_reply, TimesOut}
use Rattle.step_model.specs.Sure.{SameKey}
use Rattle.history_laws.specs.Guarded.{Guarded, Covers, lasts}
use Rattle.history_laws.specs.Knows.{Accords, FirstsFit, SameMark}
use Rattle.history_laws.specs.Relies.{KeysOf, is_fetch, reaches}
use Rattle.history_laws.specs.Sane.{Sane}
use Rattle.history_laws.proofs.Basics.{both}
use Rattle.history_laws.proofs.EntryOrder.{key_cmp_total, table_cmp_total}
use Rattle.history_laws.proofs.Sessions.{locks_granted}
use Rattle.history_laws.proofs.EntryLists.{at_itself}
use Rattle.history_laws.proofs.SaneMoves.{all_locks, all_saved, sane_set}
use Rattle.history_laws.proofs.SaneMarks.{sane_added, sane_mark, sane_back, sane_relax, sane_begin}
use Rattle.history_laws.proofs.SaneEnds.{sane_commit, sane_rollback}
use Rattle.history_laws.proofs.GuardMoves.{guarded_same, place_set, place_mapped}
use Rattle.history_laws.proofs.OneMove.{set_engine}
use Rattle.history_laws.proofs.Sessions.{closed_own, changed_own}
use Rattle.history_laws.proofs.Tables.{table_same}
use Rattle.lock_modes.specs.declared.RangePart.TheVariants.{N as RangeN, S as RangeS}
use Rattle.lock_modes.specs.declared.KeyPart.{KeyPart}
use Rattle.lock_modes.specs.declared.KeyPart.TheVariants.{N, S, U, X}
use Rattle.lock_modes.specs.Modes.{exclusive, range_s_s}
use Rattle.step_model.specs.declared.manner.Manner.{Manner}
use Rattle.step_model.specs.declared.range.Start.{Start}
use Rattle.step_model.specs.declared.range.Stop.{Stop}
use Rattle.step_model.specs.declared.op.Hold.{Hold}
use Rattle.step_model.specs.declared.op.Hold.TheVariants.{Row as RowAlone, Range}
use Rattle.step_model.specs.declared.op.Op.{Op}
use Rattle.step_model.specs.declared.op.Op.TheVariants.{Begin, Fetch, Insert, Replace, Erase, Mark, BackTo, Relax, Commit, Rollback}
use Rattle.step_model.specs.declared.reply.Reply.{Reply}
use Rattle.step_model.specs.declared.reply.Reply.TheVariants.{Began, Row, Gone, End as Over, Done, Exists, Missing, Marked, Ended, Wait, TimedOut, Victim, Memory}
use Rattle.history_laws.proofs.Firsts.{next_there}
use Rattle.history_laws.proofs.Sessions.{open_changed}
use Rattle.history_laws.proofs.EntryLists.{has_back}
use Rattle.std.specs.Prelude.{length, slice_get}
use Rattle.std.specs.Ordering.{is_lt, is_gt}
use Rattle.lock_modes.specs.Agreement.{pairs_agree}
use Rattle.step_model.specs.declared.manner.Patience.{Patience}
use Rattle.step_model.specs.declared.manner.Patience.TheVariants.{Refuse, Forever}
use Rattle.step_model.specs.declared.change.Deed.TheVariants.{Erase as Erases, Replace as Replaces, Insert as InsertsRow}
use Rattle.history_laws.proofs.Within.{allows_tied, ends_before}
use Rattle.history_laws.proofs.Firsts.{next_allows}
use Rattle.history_laws.proofs.Fetches.{answers}
use Rattle.history_laws.proofs.Places.{place_found}
use Rattle.history_laws.proofs.FitsGrows.{fits_ended}
use Rattle.history_laws.proofs.OwnChanges.{sees, net_same}
use Rattle.history_laws.proofs.GuardMoves.{guarded_grown_own, guarded_eased}
use Rattle.history_laws.proofs.SaneMarks.{added_own}
use Rattle.history_laws.proofs.OwnMore.{After, tied_ended}
use Rattle.history_laws.proofs.OwnMoves.{firsts_same, marks_same, set_own, set_first, set_rows, add_own, add_first, add_rows, mark_found, marks_upto, back_own, back_rows, closed_none, entry_table}
use Rattle.history_laws.proofs.StepMoves.{taken_fetch, x_taken, calm_standing, granted_none, found_stands, wait_shifts, fall_shifts, told_shifts}
use Rattle.history_laws.proofs.Told.{told_is}
use Rattle.step_model.specs.declared.edge.Edge.{Edge}
use Rattle.step_model.specs.Cycles.{IsCycle, BeginsAt, is_waiter}
use Rattle.history_laws.proofs.OwnStep.{accords_more, accords_plain, accords_wait, accords_calm, accords_granted, accords_taken, accords_shifts, kept_progress, after_same, waits_more}

-- ---- what a lock that is taken guards

granted_has : (session : ℕ) (mid : Engine) (lock : Lock) (test : Lock → Bool) (on : Resource)
    → is_open session mid ≡ true → same_resource lock.on on ≡ true → test lock ≡ true
    → has test session on (with_locks session (lock ∷ []) mid) ≡ true
granted_has session mid lock test on there same passes =
    rw (locks_granted session (lock ∷ []) mid there)
    (has_back test on (locks_of session mid) (lock ∷ []) (rw (same, passes) refl))

on_itself : (on : Resource) → same_resource on on ≡ true
on_itself on = rw (tied_itself table_cmp_total on.table, on_place on.place) refl
  where
    on_place : (place : Place) → same_place place place ≡ true
    on_place End = refl
    on_place (At x) = rw (tied_itself key_cmp_total x) refl

-- the place of a key is what was locked
covered_by : (session : ℕ) (mid : Engine) (lock : Lock) (t : TableName) (x : List Value) (found : Option Entry)
    → is_open session mid ≡ true → place_at mid.entries t x ≡ found → lock.on ≡ resource_of t found
    → is_range lock ≡ true → Covers session t x (with_locks session (lock ∷ []) mid)
covered_by session mid lock t x found there place on range =
    granted_has session mid lock is_range (place_on mid.entries t x) there
    (subst (λ (r : Resource). same_resource lock.on r ≡ true) (on
    ∙ sym (ap (resource_of t) place)) (on_itself lock.on)) range

same_key_on : (t u : TableName) (x k : List Value) → SameKey t k u x
    → same_resource (key_on t k) (key_on u x) ≡ true
same_key_on t u x k (tables, keys) =
    let first : table_cmp t u ≡ Equal = tied_back table_cmp_total u t ((Equal-is (table_cmp u t)).0 tables) in
    let second : key_cmp k x ≡ Equal = tied_back key_cmp_total x k ((Equal-is (key_cmp x k)).0 keys) in
    rw (first, second) refl

-- ---- fetches

reach_parts : (start : Start) (key x : List Value) → allows start key ≡ true → reaches start key x ≡ true
    → (allows start x ≡ true) × (is_gt (key_cmp x key) ≡ false)
reach_parts start key x allowed reach = by_order (key_cmp x key) refl reach
  where
    by_order : (o : Ordering) → key_cmp x key ≡ o → (is_eq o || allows start x && is_lt o) ≡ true
        → (allows start x ≡ true) × (is_gt (key_cmp x key) ≡ false)
    by_order Less is reach = ((both (allows start x) true reach).0, rw is refl)
    by_order Equal is reach = (allows_tied start x key is ∙ allowed, rw is refl)
    by_order Greater is reach = absurd (let h = (both (allows start x) false reach).1 in let g : false
        ≡ true = h in cc)

past_below : (stop : Stop) (key x : List Value) → includes stop key ≡ false → includes stop x ≡ true
    → is_gt (key_cmp x key) ≡ false
past_below stop key x out inside = by_order (key_cmp x key) refl
  where
    by_order : (o : Ordering) → key_cmp x key ≡ o → is_gt (key_cmp x key) ≡ false
    by_order Less is = rw is refl
    by_order Equal is = rw is refl
    by_order Greater is =
        let above : is_gt (key_cmp key x) ≡ false = rw (key_cmp_total.antisymm key x, is) refl in
        absurd (let h : true ≡ false = sym inside ∙ ends_before stop key x above out in cc)

abbrev pub is_fetched : Reply → Bool
is_fetched (Row key row at) = true
is_fetched (Gone key at) = true
is_fetched (Over at) = true
is_fetched reply = false

fetched_progress : (p : Progress) (table : TableName) (start : Start) (stop : Stop) (hold : Hold)
    (part : KeyPart) (reply : Reply) → is_fetched reply ≡ true
    → progress_after p (Fetch table start stop hold part) reply ≡ p
fetched_progress p table start stop hold part (Row key row at) is = kept_progress p
fetched_progress p table start stop hold part (Gone key at) is = kept_progress p
fetched_progress p table start stop hold part (Over at) is = kept_progress p
fetched_progress p table start stop hold part reply is = cc

fetched_parts : (session : ℕ) (stop : Stop) (at : ℕ) (o : Option Entry)
    → (is_fetched (fetch_reply session stop at o) ≡ true) × (is_wait (fetch_reply session stop at o) ≡ false)
    × (is_ended (fetch_reply session stop at o) ≡ false)
    × AllByRecursion (λ number. number ≡ at) (numbers_of (fetch_reply session stop at o))
    × (at_of (fetch_reply session stop at o) ≡ at)
    × IsCaused session Forever (fetch_reply session stop at o)
fetched_parts session stop at None = (refl, refl, refl, (refl, tt), refl, tt)
fetched_parts session stop at (Some e) = by_stop (includes stop e.key) (seen_by session e)
  where
    by_stop : (b : Bool) (row : Option (List Value))
        → (is_fetched (if b then entry_reply row e.key at else Over at) ≡ true)
        × (is_wait (if b then entry_reply row e.key at else Over at) ≡ false)
        × (is_ended (if b then entry_reply row e.key at else Over at) ≡ false)
        × AllByRecursion (λ number. number ≡ at) (numbers_of (if b then entry_reply row e.key at else Over at))
        × (at_of (if b then entry_reply row e.key at else Over at) ≡ at)
        × IsCaused session Forever (if b then entry_reply row e.key at else Over at)
    by_stop true None = (refl, refl, refl, (refl, tt), refl, tt)
    by_stop true (Some row) = (refl, refl, refl, (refl, tt), refl, tt)
    by_stop false row = (refl, refl, refl, (refl, tt), refl, tt)

caused_any : (session : ℕ) (one other : Patience) (reply : Reply) → is_fetched reply ≡ true
    → IsCaused session other reply
caused_any session one other (Row key row at) is = tt
caused_any session one other (Gone key at) is = tt
caused_any session one other (Over at) is = tt
caused_any session one other reply is = cc

module _ (session : ℕ) (mid : Engine) (there : is_open session mid
    ≡ true) (table : TableName) (start : Start) (stop : Stop) where
  -- a fetch's locks guard what it relies on
  fetch_relied : (hold : Hold) (part : KeyPart) (at : ℕ) (o : Option Entry)
      → next_entry mid.entries table start ≡ o → (span : Span) (t : TableName) (x : List Value)
      → KeysOf (Fetch table start stop hold part) (fetch_reply session stop at o) [] span t x
      → Guarded span session t x (with_claim session (fetch_claim hold part table stop o) mid)
  fetch_relied hold part at None found span t x keys = by_hold hold part span keys
    where
      by_hold : (hold : Hold) (part : KeyPart) (span : Span)
          → KeysOf (Fetch table start stop hold part) (Over at) [] span t x
          → Guarded span session t x (with_claim session (past_claim hold (resource_of table None)) mid)
      by_hold Range part Whole (tables, allowed, inside) =
          let same : t ≡ table = table_same t table ((Equal-is (table_cmp t table)).0 tables) in
          let place : place_at mid.entries t x ≡ None =
          rw same (place_found table start x mid.entries None found allowed tt) in
          inl (covered_by session mid (record {
            on = resource_of table None;
            pair = range_s_s;
            span = Whole;
          }) t x None there place (ap (λ (u : TableName). resource_of u None) (sym same)) refl)
      by_hold Range part Statement keys = absurd keys
      by_hold RowAlone N span keys = absurd (none_row N span keys)
        where
          none_row : (part : KeyPart) (span : Span)
              → KeysOf (Fetch table start stop RowAlone part) (Over at) [] span t x → ⊥
          none_row N span keys = keys
          none_row S span keys = keys
          none_row U span keys = keys
          none_row X span keys = keys
      by_hold RowAlone S span keys = absurd keys
      by_hold RowAlone U span keys = absurd keys
      by_hold RowAlone X span keys = absurd keys
  fetch_relied hold part at (Some e) found span t x keys =
      by_stop (includes stop e.key) refl (seen_by session e) keys
    where
      allowed_e : allows start e.key ≡ true
      allowed_e = next_allows table start mid.entries e found

      e_there : entry_at mid.entries table e.key ≡ Some e
      e_there = next_there table start mid.entries e found

      covered_e : (lock : Lock) → lock.on ≡ entry_on e → is_range lock ≡ true → t ≡ table
          → allows start x ≡ true → is_gt (key_cmp x e.key) ≡ false
          → Guarded Whole session t x (with_locks session (lock ∷ []) mid)
      covered_e lock on range same allowed below =
          inl (covered_by session mid lock t x (Some e) there
          (rw same (place_found table start x mid.entries (Some e) found allowed below)) on range)

      same_table : is_eq (table_cmp t table) ≡ true → t ≡ table
      same_table tables = table_same t table ((Equal-is (table_cmp t table)).0 tables)

      past : (hold : Hold) (part : KeyPart) (span : Span) → includes stop e.key ≡ false
          → KeysOf (Fetch table start stop hold part) (Over at) [] span t x
          → Guarded span session t x (with_claim session (past_claim hold (entry_on e)) mid)
      past Range part Whole out (tables, allowed, inside) =
          covered_e (record {
            on = entry_on e;
            pair = range_s_s;
            span = Whole;
          }) refl refl (same_table tables) allowed (past_below stop e.key x out inside)
      past Range part Statement out keys = absurd keys
      past RowAlone N span out keys = absurd keys
      past RowAlone S span out keys = absurd keys
      past RowAlone U span out keys = absurd keys
      past RowAlone X span out keys = absurd keys

      row : (hold : Hold) (part : KeyPart) (span : Span) (r : List Value)
          → KeysOf (Fetch table start stop hold part) (Row e.key r at) [] span t x
          → Guarded span session t x (with_claim session (Some (inside_claim hold part (entry_on e))) mid)
      row Range part Whole r (tables, reach) =
          let parts = reach_parts start e.key x allowed_e reach in
          covered_e (record {
            on = entry_on e;
            pair = record { range = RangeS; key = part };
            span = Whole;
          }) refl refl (same_table tables) parts.0 parts.1
      row Range part Statement r keys = absurd keys
      row RowAlone U Statement r (same, none) =
          let on_key : same_resource (entry_on e) (key_on t x) ≡ true =
          subst (λ (u : TableName). same_resource (key_on u e.key) (key_on t x)
          ≡ true) (entry_table mid.entries table e.key e e_there).0 (same_key_on table t x e.key same) in
          inr (granted_has session mid (record {
            on = entry_on e;
            pair = record { range = RangeN; key = U };
            span = Statement;
          }) (lasts Statement) (key_on t x) there on_key refl)
      row RowAlone U Whole r keys = absurd keys
      row RowAlone N span r keys = absurd keys
      row RowAlone S span r keys = absurd keys
      row RowAlone X span r keys = absurd keys

      gone : (hold : Hold) (part : KeyPart) (span : Span)
          → KeysOf (Fetch table start stop hold part) (Gone e.key at) [] span t x
          → Guarded span session t x (with_claim session (Some (inside_claim hold part (entry_on e))) mid)
      gone Range part Whole (tables, reach) =
          let parts = reach_parts start e.key x allowed_e reach in
          covered_e (record {
            on = entry_on e;
            pair = record { range = RangeS; key = part };
            span = Whole;
          }) refl refl (same_table tables) parts.0 parts.1
      gone Range part Statement keys = absurd keys
      gone RowAlone N span keys = absurd keys
      gone RowAlone S span keys = absurd keys
      gone RowAlone U span keys = absurd keys
      gone RowAlone X span keys = absurd keys

      by_stop : (b : Bool) → includes stop e.key ≡ b → (r : Option (List Value))
          → KeysOf (Fetch table start stop hold part) (if b then entry_reply r e.key at
          else Over at) [] span t x → Guarded span session t x (with_claim session (if b
          then Some (inside_claim hold part (entry_on e)) else past_claim hold (entry_on e)) mid)
      by_stop true is None keys = gone hold part span keys
      by_stop true is (Some r) keys = row hold part span r keys
      by_stop false is r keys = past hold part span is keys

pub own_fetch : (session : ℕ) (mid : Engine) (steps : List Exchange) (manner : Manner) (table : TableName)
    (start : Start) (stop : Stop) (hold : Hold) (part : KeyPart) → Accords mid session steps
    → is_open session mid ≡ true → IsPartOfFetch part
    → Passes session (claim_of mid (Fetch table start stop hold part)) mid
    → Accords (with_claim session (claim_of mid (Fetch table start stop hold part)) mid) session
    (steps ++ record {
      op = Fetch table start stop hold part;
      manner = manner;
      reply = fetch_reply session stop (length mid.log) (next_entry mid.entries table start);
    } ∷ [])
own_fetch session mid steps manner table start stop hold part knows there may free =
    let new = with_claim session (claim_of mid (Fetch table start stop hold part)) mid in
    let k : Accords new session steps =
    accords_taken session mid new steps there (taken_fetch session mid hold part may table start stop free)
    knows in
    let parts = fetched_parts session stop (length mid.log) (next_entry mid.entries table start) in
    let own = (progress_of (without_waits steps)).own in
    accords_more session new new steps _ k k.sane parts.1 parts.2 refl parts.3
    (answers session mid.entries knows.sane.ordered (With (State mid.log) (map change_of own))
    (sees mid knows.sane session own knows.tied.own) table start stop hold part (length mid.log))
    tt (caused_any session Forever manner.patience _ parts.0)
    (after_same session new new (without_waits steps) _ k.tied
    (fetched_progress (progress_of (without_waits steps)) table start stop hold part _ parts.0) refl refl
    refl)
    (λ span t x still guarded. guarded)
    (fetch_relied session mid there table start stop hold part (length mid.log)
    (next_entry mid.entries table start) refl)
    (λ fetches span t x keys. parts.4)

-- ---- writes at an entry

abbrev x_on : Entry → Lock
x_on e = record { on = entry_on e; pair = exclusive; span = Whole }

module _ (session : ℕ) (mid : Engine) (steps : List Exchange) (manner : Manner)
    (knows : Accords mid session steps) (there : is_open session mid
    ≡ true) (t : TableName) (k : List Value) (e : Entry) (found : entry_at mid.entries t k
    ≡ Some e) (free : NoFoe session (entry_on e) exclusive mid) where
  abbrev taken_e : Engine
  taken_e = with_locks session (x_on e ∷ []) mid

  accords_e : Accords taken_e session steps
  accords_e = accords_granted session mid steps (x_on e) there free (record {
    shape = refl;
    key = tt;
    stands = found_stands mid.entries t k e found;
  }) knows

  -- X is on the key
  held_e : (new : Engine) → ((on : Resource) → has (lasts Whole) session on taken_e ≡ true
      → has (lasts Whole) session on new ≡ true) → (u : TableName) (x : List Value) → SameKey t k u x
      → Guarded Whole session u x new
  held_e new more u x same =
      let parts = entry_table mid.entries t k e found in
      let on_key : same_resource (entry_on e) (key_on u x) ≡ true = sym (has_tie parts same) in
      inr (more (key_on u x) (granted_has session mid (x_on e) (lasts Whole) (key_on u x) there on_key refl))
    where
      has_tie : (t ≡ e.table) × (key_cmp k e.key ≡ Equal) → SameKey t k u x
          → true ≡ same_resource (entry_on e) (key_on u x)
      has_tie parts (tables, keys) =
          let first : table_cmp e.table u ≡ Equal =
          tied_back table_cmp_total u e.table (subst (λ (v : TableName). table_cmp u v
          ≡ Equal) parts.0 ((Equal-is (table_cmp u t)).0 tables)) in
          let second : key_cmp e.key x ≡ Equal =
          tied_back key_cmp_total x e.key (key_cmp_total.congr x k e.key ((Equal-is (key_cmp x k)).0 keys)
          ∙ parts.1) in
          rw (first, second) refl

  sees_e : With (State mid.log) (map change_of (progress_of (without_waits steps)).own) t k ≡ seen_by session e
  sees_e = sees mid knows.sane session (progress_of (without_waits steps)).own knows.tied.own t k
      ∙ ap (option_and_then (seen_by session)) found

  -- an exchange that only took X
  pub own_taken : (op : Op) (reply : Reply) → is_wait reply ≡ false → is_ended reply ≡ false
      → numbers_of reply ≡ []
      → AnswersIn (With (State mid.log) (map change_of (progress_of (without_waits steps)).own)) op reply
      → FreshIn (With (State mid.log) (map change_of (progress_of (without_waits steps)).own)) op reply
      → IsCaused session manner.patience reply
      → progress_after (progress_of (without_waits steps)) op reply ≡ progress_of (without_waits steps)
      → ((span : Span) (u : TableName) (x : List Value) → KeysOf op reply [] span u x
      → (span ≡ Whole) × SameKey t k u x) → (is_fetch op ≡ false)
      → Accords taken_e session (steps ++ record { op = op; manner = manner; reply = reply } ∷ [])
  own_taken op reply not_wait goes_on numbers answered fresh caused same keys not_fetch =
      accords_more session taken_e taken_e steps (record {
        op = op;
        manner = manner;
        reply = reply;
      }) accords_e accords_e.sane not_wait goes_on refl (rw numbers tt) answered fresh caused
      (after_same session taken_e taken_e (without_waits steps) (record {
        op = op;
        manner = manner;
        reply = reply;
      }) accords_e.tied same refl refl refl)
      (λ span u x still guarded. guarded)
      (λ span u x there. let parts = keys span u x there in
      subst (λ (s : Span). Guarded s session u x taken_e) (sym parts.0)
      (held_e taken_e (λ on is. is) u x parts.1))
      (λ fetches span u x there. absurd (let h : false ≡ true = sym not_fetch ∙ fetches in cc))

  -- one that set a state
  pub own_set : (op : Op) (row : Option (List Value)) (planned : Planned)
      → change_of planned ≡ record { table = t; key = k; row = row }
      → is_insert planned.deed ≡ is_none (seen_by session e)
      → AnswersIn (With (State mid.log) (map change_of (progress_of (without_waits steps)).own)) op Done
      → FreshIn (With (State mid.log) (map change_of (progress_of (without_waits steps)).own)) op Done
      → progress_after (progress_of (without_waits steps)) op Done
      ≡ record (progress_of (without_waits steps))
      { own = (progress_of (without_waits steps)).own ++ planned ∷ [] }
      → ((span : Span) (u : TableName) (x : List Value) → KeysOf op Done [] span u x
      → (span ≡ Whole) × SameKey t k u x) → (is_fetch op ≡ false)
      → Accords (set_engine session k row e taken_e) session (steps ++ record {
        op = op;
        manner = manner;
        reply = Done;
      } ∷ [])
  own_set op row planned plans fits answered fresh same keys not_fetch =
      accords_more session taken_e (set_engine session k row e taken_e) steps (record {
        op = op;
        manner = manner;
        reply = Done;
      }) accords_e
      (sane_set taken_e accords_e.sane e t k found (record {
        owner = session;
        key = k;
        row = row;
      }) (tied_itself key_cmp_total k) x_there)
      refl refl refl tt answered fresh tt
      (record {
        is_open = accords_e.tied.is_open ∙ ap (λ (p : Progress). p.is_open) (sym same);
        own = λ u x. set_own session taken_e accords_e.sane t k row e found x_there planned plans
            (progress_of (without_waits steps)).own accords_e.tied.own u x
            ∙ ap (λ (p : Progress). last_at p.own u x) (sym same);
        first = subst (λ (p : Progress). FirstsFit (set_engine session k row e taken_e).entries p.own)
            (sym same) (set_first session taken_e accords_e.sane t k row e found x_there planned plans
            (progress_of (without_waits steps)).own accords_e.tied.own fits accords_e.tied.first);
        marks = subst
            (λ (p : Progress). AllZip (SameMark (set_engine session k row e taken_e).entries)
            (saved_of session taken_e) p.marks) (sym same)
            (marks_same taken_e.entries (set_engine session k row e taken_e).entries
            (set_rows session taken_e accords_e.sane t k row e found x_there planned plans)
            (saved_of session taken_e) (progress_of (without_waits steps)).marks accords_e.tied.marks);
      })
      (λ span u x still guarded. guarded_same taken_e (set_engine session k row e taken_e) session span u x
      (place_set e (Some (record {
        owner = session;
        key = k;
        row = row;
      })) mid.entries accords_e.sane.ordered (at_itself mid.entries e t k found) u x)
      (λ test on is. is) guarded)
      (λ span u x there. let parts = keys span u x there in
      subst (λ (s : Span). Guarded s session u x (set_engine session k row e taken_e)) (sym parts.0)
      (held_e (set_engine session k row e taken_e) (λ on is. is) u x parts.1))
      (λ fetches span u x there. absurd (let h : false ≡ true = sym not_fetch ∙ fetches in cc))
    where
      x_there : has is_x session (entry_on e) taken_e ≡ true
      x_there = x_taken session mid (entry_on e) there

-- ---- insertions

insert_done_keys : (t : TableName) (k row : List Value) (span : Span) (u : TableName) (x : List Value)
    → KeysOf (Insert t k row) Done [] span u x → (span ≡ Whole) × SameKey t k u x
insert_done_keys t k row Whole u x keys = (refl, keys)
insert_done_keys t k row Statement u x keys = absurd keys

insert_exists_keys : (t : TableName) (k row : List Value) (span : Span) (u : TableName) (x : List Value)
    → KeysOf (Insert t k row) Exists [] span u x → (span ≡ Whole) × SameKey t k u x
insert_exists_keys t k row Whole u x keys = (refl, keys)
insert_exists_keys t k row Statement u x keys = absurd keys

pub own_insert : (session : ℕ) (mid new : Engine) (steps : List Exchange) (manner : Manner) (t : TableName)
    (k row : List Value) (reply : Reply) (o : Option Entry) → Accords mid session steps
    → is_open session mid ≡ true → entry_at mid.entries t k ≡ o
    → NoFoe session (insert_claim t o (place_at mid.entries t k)).on
    (insert_claim t o (place_at mid.entries t k)).pair mid → Inserts session t k row o mid reply new
    → Accords new session (steps ++ record { op = Insert t k row; manner = manner; reply = reply } ∷ [])
own_insert session mid new steps manner t k row reply None knows there found free does =
    rw (does.0, does.1) added
  where
    planned : Planned
    planned = record { table = t; key = k; deed = InsertsRow row }

    own : List Planned
    own = (progress_of (without_waits steps)).own

    with_it : Engine
    with_it = with_entry session t k row (new_locks t k (inherits session t k mid)) mid

    holds_range : (span : Span) (u : TableName) (x : List Value) → KeysOf (Insert t k row) Done [] span u x
        → Guarded span session u x (with_entry session t k row (new_locks t k (inherits session t k mid)) mid)
    holds_range Statement u x keys = absurd keys
    holds_range Whole u x keys =
        inr (rw (added_own session mid knows.sane there t k row found (inherits session t k mid))
        (has_back (lasts Whole) (key_on u x) (locks_of session mid)
        (new_locks t k (inherits session t k mid)) (by_b (inherits session t k mid))))
      where
        by_b : (b : Bool) → has_lock (lasts Whole) (key_on u x) (new_locks t k b) ≡ true
        by_b true = rw (same_key_on t u x k keys) refl
        by_b false = rw (same_key_on t u x k keys) refl

    no_row : With (State mid.log) (map change_of (progress_of (without_waits steps)).own) t k ≡ None
    no_row = sees mid knows.sane session (progress_of (without_waits steps)).own knows.tied.own t k
        ∙ ap (option_and_then (seen_by session)) found

    added : Accords (with_entry session t k row (new_locks t k (inherits session t k mid)) mid) session
        (steps ++ record { op = Insert t k row; manner = manner; reply = Done } ∷ [])
    added =
        accords_more session mid (with_entry session t k row (new_locks t k (inherits session t k mid)) mid)
        steps (record { op = Insert t k row; manner = manner; reply = Done }) knows
        (sane_added session mid knows.sane there t k row found (inherits session t k mid)) refl refl refl tt tt
        no_row tt
        (record {
          is_open = open_changed session (add_locks (new_locks t k (inherits session t k mid))) (λ tr. refl)
              (record mid { entries = put_entry (new_entry session t k row) mid.entries }) ∙ knows.tied.is_open;
          own = add_own session mid knows.sane there t k row found (record {
            table = t;
            key = k;
            deed = InsertsRow row;
          }) refl (progress_of (without_waits steps)).own knows.tied.own;
          first = add_first session mid knows.sane there t k row found (record {
            table = t;
            key = k;
            deed = InsertsRow row;
          }) refl (progress_of (without_waits steps)).own refl knows.tied.first;
          marks = rw (all_saved session (add_locks (new_locks t k (inherits session t k mid))) (λ tr. refl)
              (λ tr. refl) (record mid { entries = put_entry (new_entry session t k row) mid.entries }) session)
              (marks_same mid.entries (put_entry (new_entry session t k row) mid.entries)
              (add_rows session mid knows.sane there t k row found (record {
                table = t;
                key = k;
                deed = InsertsRow row;
              }) refl) (saved_of session mid)
              (progress_of (without_waits steps)).marks knows.tied.marks);
        })
        (λ span u x still guarded. guarded_grown_own session mid knows.sane there t k row found span u x
        guarded)
        holds_range
        (λ fetches span u x keys. absurd (let h : false ≡ true = fetches in cc))
own_insert session mid new steps manner t k row reply (Some e) knows there found free does =
    rw (does.0, does.1) (by_row (seen_by session e) refl)
  where
    claims : claim_of mid (Insert t k row)
        ≡ Some (record { on = entry_on e; pair = exclusive; kept = Some Whole })
    claims = ap (λ (o : Option Entry). Some (insert_claim t o (place_at mid.entries t k))) found

    shown : With (State mid.log) (map change_of (progress_of (without_waits steps)).own) t k ≡ seen_by session e
    shown = sees_e session mid steps manner knows there t k e found free

    by_row : (r : Option (List Value)) → seen_by session e ≡ r
        → Accords (insert_at session t k row r (with_claim session (claim_of mid (Insert t k row)) mid)) session
        (steps ++ record { op = Insert t k row; manner = manner; reply = insert_reply r } ∷ [])
    by_row None is =
        subst (λ (claim : Option Claim). Accords (insert_at session t k row None (with_claim session claim mid))
        session (steps ++ record { op = Insert t k row; manner = manner; reply = Done } ∷ [])) (sym claims)
        (subst (λ (o : Option Entry). Accords
        (record (with_locks session (x_on e ∷ []) mid) {
          entries = set_at (Some (record {
            owner = session;
            key = k;
            row = Some row;
          })) mid.entries o;
        }) session (steps ++ record {
          op =
              Insert t k row;
          manner = manner;
          reply = Done;
        } ∷ [])) (sym found)
        (own_set session mid steps manner knows there t k e found free (Insert t k row) (Some row)
        (record { table = t; key = k; deed = InsertsRow row }) refl (ap is_none (sym is)) tt (shown
        ∙ is) refl (insert_done_keys t k row) refl))
    by_row (Some r) is =
        subst (λ (claim : Option Claim). Accords
        (insert_at session t k row (Some r) (with_claim session claim mid)) session
        (steps ++ record { op = Insert t k row; manner = manner; reply = Exists } ∷ [])) (sym claims)
        (own_taken session mid steps manner knows there t k e found free (Insert t k row) Exists refl refl refl
        tt (ap is_some (shown
        ∙ is)) tt (kept_progress (progress_of (without_waits steps))) (insert_exists_keys t k row) refl)

-- ---- replacements and erasures

pub own_write : (session : ℕ) (mid new : Engine) (steps : List Exchange) (manner : Manner) (op : Op)
    (t : TableName) (k : List Value) (row : Option (List Value)) (planned : Planned) (reply : Reply)
    (o : Option Entry) → Accords mid session steps → is_open session mid ≡ true → entry_at mid.entries t k ≡ o
    → Passes session (write_claim o) mid → (reply ≡ write_reply (row_at session mid.entries t k))
    → (new ≡ write_at session t k row (row_at session mid.entries t k)
    (with_claim session (write_claim o) mid))
    → change_of planned ≡ record { table = t; key = k; row = row } → is_insert planned.deed ≡ false
    → ((db : Database) → AnswersIn db op Done × FreshIn db op Done)
    → ((p : Progress) → progress_after p op Done ≡ record p { own = p.own ++ planned ∷ [] })
    → ((span : Span) (u : TableName) (x : List Value) → KeysOf op Done [] span u x
    → (span ≡ Whole) × SameKey t k u x) → (is_fetch op ≡ false)
    → Accords new session (steps ++ record { op = op; manner = manner; reply = reply } ∷ [])
own_write session mid new steps manner op t k row planned reply None knows there found free replies is plans
    not_insert trivial progress keys not_fetch =
    rw (replies, is) (by_row (row_at session mid.entries t k) refl)
  where
    none : row_at session mid.entries t k ≡ None
    none = ap (option_and_then (seen_by session)) found

    by_row : (r : Option (List Value)) → row_at session mid.entries t k ≡ r
        → Accords (write_at session t k row r (with_locks session [] mid)) session (steps ++ record {
          op = op;
          manner = manner;
          reply = write_reply r;
        } ∷ [])
    by_row None seen_none = rw (granted_none session mid) (accords_plain session mid steps (record {
      op = op;
      manner = manner;
      reply = Missing;
    }) knows refl tt)
    by_row (Some r) seen_some = absurd (let h : None ≡ Some r = sym none ∙ seen_some in cc)
own_write session mid new steps manner op t k row planned reply (Some e) knows there found free replies is
    plans not_insert trivial progress keys not_fetch =
    rw (replies, is) (by_row (row_at session mid.entries t k) refl)
  where
    sees_row : row_at session mid.entries t k ≡ seen_by session e
    sees_row = ap (option_and_then (seen_by session)) found

    by_row : (r : Option (List Value)) → row_at session mid.entries t k ≡ r
        → Accords (write_at session t k row r (with_locks session (x_on e ∷ []) mid)) session
        (steps ++ record { op = op; manner = manner; reply = write_reply r } ∷ [])
    by_row None seen_none = accords_plain session (with_locks session (x_on e ∷ []) mid) steps (record {
      op = op;
      manner = manner;
      reply =
          Missing;
    }) (accords_e session mid steps manner knows there t k e found free) refl tt
    by_row (Some r) seen_some =
        let db = With (State mid.log) (map change_of (progress_of (without_waits steps)).own) in
        subst (λ (o : Option Entry). Accords
        (record (with_locks session (x_on e ∷ []) mid) {
          entries = set_at (Some (record {
            owner = session;
            key = k;
            row = row;
          })) mid.entries o;
        }) session (steps ++ record {
          op = op;
          manner =
              manner;
          reply = Done;
        } ∷ [])) (sym found)
        (own_set session mid steps manner knows there t k e found free op row planned plans (not_insert
        ∙ sym (ap is_none (sym sees_row
        ∙ seen_some))) (trivial db).0 (trivial db).1 (progress (progress_of (without_waits steps))) keys
        not_fetch)

replace_keys : (t : TableName) (k row : List Value) (span : Span) (u : TableName) (x : List Value)
    → KeysOf (Replace t k row) Done [] span u x → (span ≡ Whole) × SameKey t k u x
replace_keys t k row Whole u x keys = (refl, keys)
replace_keys t k row Statement u x keys = absurd keys

erase_keys : (t : TableName) (k : List Value) (span : Span) (u : TableName) (x : List Value)
    → KeysOf (Erase t k) Done [] span u x → (span ≡ Whole) × SameKey t k u x
erase_keys t k Whole u x keys = (refl, keys)
erase_keys t k Statement u x keys = absurd keys

-- ---- the beginning

no_locks_there : (session : ℕ) (mid : Engine) → is_open session mid ≡ false
    → transaction_in session mid.active ≡ None
no_locks_there session mid not_open = by_case (transaction_in session mid.active) not_open
  where
    by_case : (o : Option Transaction) → is_some o ≡ false → o ≡ None
    by_case None is = refl
    by_case (Some t) is = cc

pub own_begin : (session : ℕ) (mid : Engine) (steps : List Exchange) (manner : Manner)
    → Accords mid session steps → is_open session mid ≡ false
    → Accords (after_begin session mid) session (steps ++ record {
      op = Begin;
      manner = manner;
      reply = Began;
    } ∷ [])
own_begin session mid steps manner knows not_open =
    accords_more session mid (after_begin session mid) steps (record {
      op = Begin;
      manner = manner;
      reply = Began;
    }) knows (sane_begin session mid knows.sane not_open) refl refl refl tt tt tt tt
    (record {
      is_open = rw (eq-eqb session session refl) refl;
      own = λ u x. closed_none session mid knows.sane not_open u x;
      first = λ u x planned is. cc;
      marks = rw (eq-eqb session session refl) tt;
    })
    (λ span u x still guarded. guarded_same mid (after_begin session mid) session span u x refl
    (λ test on is. absurd (let h : false
    ≡ true = sym
    (ap (λ (o : Option Transaction). has_lock test on (locks_in o)) (no_locks_there session mid not_open))
    ∙ is in cc)) guarded)
    (λ span u x keys. absurd keys) (λ fetches span u x keys. absurd keys)

-- ---- marks

zip_push : {A B : Type 0} (R : A → B → Type 0) (xs : List A) (ys : List B) (x : A) (y : B) → AllZip R xs ys
    → R x y → AllZip R (xs ++ x ∷ []) (ys ++ y ∷ [])
zip_push R [] [] x y zip last = (last, tt)
zip_push R [] (b ∷ ys) x y zip last = absurd zip
zip_push R (a ∷ xs) [] x y zip last = absurd zip
zip_push R (a ∷ xs) (b ∷ ys) x y zip last = (zip.0, zip_push R xs ys x y zip.1 last)

pub own_mark : (session : ℕ) (mid : Engine) (steps : List Exchange) (manner : Manner) → Accords mid session steps
    → is_open session mid ≡ true → Accords (after_mark session mid) session (steps ++ record {
      op = Mark;
      manner = manner;
      reply = Marked (made_by session mid + 1);
    } ∷ [])
own_mark session mid steps manner knows there =
    accords_more session mid (after_mark session mid) steps (record {
      op = Mark;
      manner = manner;
      reply = Marked (made_by session mid + 1);
    }) knows (sane_mark session mid knows.sane) refl refl refl tt
    tt tt tt
    (record {
      is_open = open_changed session f (λ tr. refl) mid ∙ knows.tied.is_open;
      own = knows.tied.own;
      first = knows.tied.first;
      marks = rw (changed_own session f (λ tr. refl) mid.active)
          (by_case (transaction_in session mid.active) there refl);
    })
    (λ span u x still guarded. guarded_same mid (after_mark session mid) session span u x refl
    (λ test on is. rw (all_locks session f (λ tr. refl) (λ tr. refl) mid session) is) guarded)
    (λ span u x keys. absurd keys) (λ fetches span u x keys. absurd keys)
  where
    f : Transaction → Transaction
    f = with_mark (made_by session mid + 1) (pending_of session mid.entries)

    by_case : (o : Option Transaction) → is_some o ≡ true → transaction_in session mid.active ≡ o
        → AllZip (SameMark mid.entries)
        (saved_in (option_map (with_mark (made_by session mid + 1) (pending_of session mid.entries)) o))
        ((progress_of (without_waits steps)).marks ++ record {
          mark = made_by session mid + 1;
          own = (progress_of (without_waits steps)).own;
        } ∷ [])
    by_case None is same = cc
    by_case (Some tr) is same =
        zip_push (SameMark mid.entries) tr.marks (progress_of (without_waits steps)).marks _ _
        (subst (λ (o : Option Transaction). AllZip (SameMark mid.entries) (saved_in o)
        (progress_of (without_waits steps)).marks) same knows.tied.marks)
        (record { mark = refl; own = knows.tied.own; first = knows.tied.first })

pub own_back : (session m : ℕ) (mid : Engine) (steps : List Exchange) (manner : Manner)
    → Accords mid session steps → Accords (after_back session m mid) session (steps ++ record {
      op = BackTo m;
      manner = manner;
      reply = Done;
    } ∷ [])
own_back session m mid steps manner knows =
    accords_more session mid (after_back session m mid) steps (record {
      op = BackTo m;
      manner = manner;
      reply = Done;
    }) knows (sane_back session m mid knows.sane) refl refl refl tt tt tt tt
    (record {
      is_open = open_changed session (cut_marks m) (λ tr. refl) mapped ∙ knows.tied.is_open;
      own = λ u x. back_own session m mid knows.sane u x ∙ found.0 u x;
      first = firsts_same mid.entries mapped.entries (back_rows session m mid knows.sane)
          (own_at m (progress_of (without_waits steps)).marks) found.1;
      marks = subst
          (λ (saved : List Saved). AllZip (SameMark mapped.entries) saved
          (filter (λ live. nat_le live.mark m) (progress_of (without_waits steps)).marks)) (sym cut)
          (marks_upto mapped.entries m (saved_of session mid) (progress_of (without_waits steps)).marks
          (marks_same mid.entries mapped.entries (back_rows session m mid knows.sane)
          (saved_of session mid) (progress_of (without_waits steps)).marks knows.tied.marks));
    })
    (λ span u x still guarded. guarded_same mid (after_back session m mid) session span u x
    (place_mapped (restore session (state_of_mark m (saved_of session mid))) (λ e. refl) (λ e. refl)
    mid.entries u x)
    (λ test on is. rw (all_locks session (cut_marks m) (λ tr. refl) (λ tr. refl) mapped session) is)
    guarded)
    (λ span u x keys. absurd keys) (λ fetches span u x keys. absurd keys)
  where
    mapped : Engine
    mapped = record mid { entries = map (restore session (state_of_mark m (saved_of session mid))) mid.entries }

    found : ((u : TableName) (x : List Value)
        → change_at (state_of_mark m (saved_of session mid)) u x
        ≡ last_at (own_at m (progress_of (without_waits steps)).marks) u x)
        × FirstsFit mid.entries (own_at m (progress_of (without_waits steps)).marks)
    found = mark_found mid.entries m (saved_of session mid) (progress_of (without_waits steps)).marks
        knows.tied.marks

    cut : saved_of session (after_back session m mid) ≡ upto_mark m (saved_of session mid)
    cut = ap saved_in (changed_own session (cut_marks m) (λ tr. refl) mid.active)
        ∙ by_case (transaction_in session mid.active)
      where
        by_case : (o : Option Transaction) → saved_in (option_map (cut_marks m) o) ≡ upto_mark m (saved_in o)
        by_case None = refl
        by_case (Some tr) = refl

-- ---- the end of a statement

pub own_relax : (session : ℕ) (mid : Engine) (steps : List Exchange) (manner : Manner)
    → Accords mid session steps → Accords (after_relax session mid) session (steps ++ record {
      op = Relax;
      manner = manner;
      reply = Done;
    } ∷ [])
own_relax session mid steps manner knows =
    accords_more session mid (after_relax session mid) steps (record {
      op = Relax;
      manner = manner;
      reply = Done;
    }) knows (sane_relax session mid knows.sane) refl refl refl tt tt tt tt
    (after_same session mid (after_relax session mid) (without_waits steps) _ knows.tied
    (kept_progress (progress_of (without_waits steps))) refl
    (open_changed session drop_statement (λ tr. refl) mid)
    (all_saved session drop_statement (λ tr. refl) (λ tr. refl) mid session))
    guarded (λ span u x keys. absurd keys) (λ fetches span u x keys. absurd keys)
  where
    guarded : (span : Span) (u : TableName) (x : List Value) → (span ≡ Statement → is_relax Relax ≡ false)
        → Guarded span session u x mid → Guarded span session u x (after_relax session mid)
    guarded Statement u x still guards = absurd (let h : true ≡ false = still refl in cc)
    guarded Whole u x still guards = guarded_eased session mid knows.sane u x guards

-- ---- the end

abbrev commit_added : ℕ → List Change → List Logged
commit_added session [] = []
commit_added session (change ∷ changes) = record { session = session; changes = change ∷ changes } ∷ []

grown_log : (session : ℕ) (log : List Logged) (changes : List Change)
    → log_with log session changes ≡ log ++ commit_added session changes
grown_log session log [] = sym (append-nil log)
grown_log session log (change ∷ changes) = refl

added_once : (session : ℕ) (changes : List Change)
    → changes_of_session session (commit_added session changes) ≡ commit_of changes
added_once session [] = refl
added_once session (change ∷ changes) = rw (eq-eqb session session refl) refl

get_last : {A : Type 0} (xs : List A) (x : A) → slice_get (xs ++ x ∷ []) (length xs) ≡ Some x
get_last [] x = refl
get_last (y ∷ xs) x = get_last xs x

logged_last : (session : ℕ) (log : List Logged) (changes : List Change)
    → IsLoggedAt session (log ++ commit_added session changes) (commit_of changes) (Ended (length log)) []
logged_last session log [] = tt
logged_last session log (change ∷ changes) =
    (get_last log (record { session = session; changes = change ∷ changes }), tt)

pub accords_ended : (session : ℕ) (mid new : Engine) (steps : List Exchange) (op : Op) (manner : Manner)
    (changes : List Change) → Accords mid session steps → Sane new → is_open session new ≡ false
    → saved_of session new ≡ [] → new.log ≡ mid.log ++ commit_added session changes
    → commit_of changes ≡ committed_by op (Ended (length mid.log)) (progress_of (without_waits steps))
    → (progress_after (progress_of (without_waits steps)) op (Ended (length mid.log)) ≡ none_open)
    → Accords new session (steps ++ record { op = op; manner = manner; reply = Ended (length mid.log) } ∷ [])
accords_ended session mid new steps op manner changes knows now closes saved log commit_is same = record {
  sane = now;
  fits = rw (
    waits_more steps last refl,
    log,
  ) (fits_ended session mid.log (commit_added session changes) (without_waits steps) last knows.fits
      refl (added_once session changes ∙ commit_is)
      (subst (λ (cs : List (List Change)). IsLoggedAt session (mid.log ++ commit_added session changes) cs
      (Ended (length mid.log)) []) commit_is (logged_last session mid.log changes)));
  tied = rw (waits_more steps last refl)
      (tied_ended session mid new (without_waits steps) last knows.tied after (length mid.log) refl);
}
  where
    last : Exchange
    last = record { op = op; manner = manner; reply = Ended (length mid.log) }

    after : After session mid new (without_waits steps) (record {
      op = op;
      manner = manner;
      reply = Ended (length mid.log);
    }) knows.tied
    after = record {
      is_open = closes ∙ ap (λ (p : Progress). p.is_open) (sym same);
      own = λ u x. closed_none session new now closes u x ∙ ap (λ (p : Progress). last_at p.own u x) (sym same);
      first = subst (λ (p : Progress). FirstsFit new.entries p.own) (sym same) (λ u x planned is. cc);
      marks = subst (λ (p : Progress). AllZip (SameMark new.entries) (saved_of session new) p.marks) (sym same)
          (rw saved tt);
    }

pub own_commit : (session : ℕ) (mid : Engine) (steps : List Exchange) (manner : Manner)
    → Accords mid session steps → Accords (after_commit session mid) session (steps ++ record {
      op = Commit;
      manner = manner;
      reply = Ended (length mid.log);
    } ∷ [])
own_commit session mid steps manner knows =
    accords_ended session mid (after_commit session mid) steps Commit manner (changes_by session mid.entries)
    knows (sane_commit session mid knows.sane)
    (ap is_some (closed_own session mid.active)) (ap saved_in (closed_own session mid.active))
    (grown_log session mid.log (changes_by session mid.entries))
    (ap commit_of
    (net_same mid knows.sane session (progress_of (without_waits steps)).own knows.tied.own
    knows.tied.first)) refl

pub own_rollback : (session : ℕ) (mid : Engine) (steps : List Exchange) (manner : Manner)
    → Accords mid session steps → Accords (after_rollback session mid) session (steps ++ record {
      op = Rollback;
      manner = manner;
      reply = Ended (length mid.log);
    } ∷ [])
own_rollback session mid steps manner knows =
    accords_ended session mid (after_rollback session mid) steps Rollback manner [] knows
    (sane_rollback session mid knows.sane)
    (ap is_some (closed_own session mid.active)) (ap saved_in (closed_own session mid.active))
    (sym (append-nil mid.log)) refl refl

-- ---- whatever is asked

-- who is told that it fell was in the cycle
begins_waits : (session : ℕ) (cycle : List Edge) → BeginsAt session cycle → IsTrue (is_waiter session cycle)
begins_waits session [] begins = absurd begins
begins_waits session (edge ∷ cycle) begins =
    ap (λ (b : Bool). b || is_waiter session cycle) (eq-eqb session edge.waiter (sym begins))

falls_caused : (session : ℕ) (claim : Option Claim) (mid new : Engine) (manner : Manner) (cycle : List Edge)
    → FallsAt session claim mid manner cycle new → IsCycle cycle × IsTrue (is_waiter session cycle)
falls_caused session None mid new manner cycle falls = absurd falls
falls_caused session (Some claim) mid new manner cycle falls =
    (falls.1.falls.closes.closed, begins_waits session cycle falls.1.falls.closes.begins)

module _ (session : ℕ) (mid : Engine) (steps : List Exchange) (manner : Manner)
    (knows : Accords mid session steps) where
  own_does : (op : Op) (reply : Reply) (new : Engine) → MayAsk (standing_of session mid) op manner
      → Passes session (claim_of mid op) mid → Does mid session op reply new
      → Accords new session (steps ++ record { op = op; manner = manner; reply = reply } ∷ [])
  own_does Begin reply new may free does = rw (does.0, does.1) (own_begin session mid steps manner knows may.0)
  own_does (Fetch t start stop hold part) reply new may free does =
      rw (does.0, does.1) (own_fetch session mid steps manner t start stop hold part knows may.0.0 may.0.1 free)
  own_does (Insert t k row) reply new may free does =
      own_insert session mid new steps manner t k row reply (entry_at mid.entries t k) knows may.0 refl free
      does
  own_does (Replace t k row) reply new may free does =
      own_write session mid new steps manner (Replace t k row) t k (Some row) (record {
        table = t;
        key = k;
        deed = Replaces row;
      }) reply (entry_at mid.entries t k) knows may.0 refl free does.0 does.1 refl refl
      (λ db. (tt, tt)) (λ p. refl) (replace_keys t k row) refl
  own_does (Erase t k) reply new may free does =
      own_write session mid new steps manner (Erase t k) t k None (record {
        table = t;
        key = k;
        deed = Erases;
      }) reply (entry_at mid.entries t k) knows may.0 refl free does.0 does.1 refl refl
      (λ db. (tt, tt)) (λ p. refl) (erase_keys t k) refl
  own_does Mark reply new may free does = rw (does.0, does.1) (own_mark session mid steps manner knows may.0)
  own_does (BackTo m) reply new may free does = rw (does.0, does.1) (own_back session m mid steps manner knows)
  own_does Relax reply new may free does = rw (does.0, does.1) (own_relax session mid steps manner knows)
  own_does Commit reply new may free does = rw (does.0, does.1) (own_commit session mid steps manner knows)
  own_does Rollback reply new may free does = rw (does.0, does.1) (own_rollback session mid steps manner knows)

  timed_out : (claim : Option Claim) (holder : ℕ) (holds_range asked : Pair) (on : Resource)
      → TimesOut session claim mid manner.patience holder holds_range asked on
      → (holder ≢ session) × (pairs_agree holds_range asked ≡ false) × (manner.patience ≡ Refuse)
  timed_out None holder holds_range asked on out = absurd out
  timed_out (Some claim) holder holds_range asked on out = (out.3.0, rw out.1 out.3.2, out.0)

  own_from : (op : Op) (reply : Reply) (new : Engine) → MayAsk (standing_of session mid) op manner
      → StepFrom mid session op manner reply new
      → Accords new session (steps ++ record { op = op; manner = manner; reply = reply } ∷ [])
  own_from op Memory new may step = rw step.1 (accords_plain session mid steps _ knows refl tt)
  own_from op (TimedOut holder holds_range asked on) new may step =
      rw step.1 (accords_plain session mid steps _ knows refl
      (timed_out (claim_of mid op) holder holds_range asked on step.0))
  own_from op (Wait holder) new may step =
      accords_wait session new steps _
      (accords_shifts session mid new steps
      (wait_shifts session mid new (claim_of mid op) manner holder step) knows) refl
  own_from op (Victim cycle) new may step =
      accords_plain session new steps _
      (accords_shifts session mid new steps (fall_shifts session mid new (claim_of mid op) manner cycle step) knows)
      refl (falls_caused session (claim_of mid op) mid new manner cycle step)
  own_from op Began new may step = own_does op Began new may step.0 step.1
  own_from op (Row key row at) new may step = own_does op (Row key row at) new may step.0 step.1
  own_from op (Gone key at) new may step = own_does op (Gone key at) new may step.0 step.1
  own_from op (Over at) new may step = own_does op (Over at) new may step.0 step.1
  own_from op Done new may step = own_does op Done new may step.0 step.1
  own_from op Exists new may step = own_does op Exists new may step.0 step.1
  own_from op Missing new may step = own_does op Missing new may step.0 step.1
  own_from op (Marked mark) new may step = own_does op (Marked mark) new may step.0 step.1
  own_from op (Ended place) new may step = own_does op (Ended place) new may step.0 step.1

  -- whether it is told first that it fell, or its operation is answered
  own_hears : (op : Op) (reply : Reply) (new : Engine) (told : Option (List Edge))
      → ((cycle : List Edge) → told ≡ Some cycle → IsCycle cycle × IsTrue (is_waiter session cycle))
      → MayAsk (standing_of session mid) op manner → Hears told mid session op manner reply new
      → Accords new session (steps ++ record { op = op; manner = manner; reply = reply } ∷ [])
  own_hears op reply new None marked may step = own_from op reply new may step
  own_hears op reply new (Some cycle) marked may step =
      rw step.0 (accords_plain session new steps (record { op = op; manner = manner; reply = Victim cycle })
      (accords_shifts session mid new steps (told_shifts session mid new step.1) knows) refl (marked cycle refl))

-- after a step of a session the state accords with its exchange too
pub own_accords : (old new : Engine) (session : ℕ) (steps : List Exchange) (op : Op) (manner : Manner)
    (reply : Reply) → Accords old session steps
    → ((cycle : List Edge) → victim_of session old ≡ Some cycle
    → IsCycle cycle × IsTrue (is_waiter session cycle)) → MayStep old session op manner
    → Step old session op manner reply new
    → Accords new session (steps ++ record { op = op; manner = manner; reply = reply } ∷ [])
own_accords old new session steps op manner reply knows marked may step =
    own_hears session (without_wait session old) steps manner (accords_calm session old steps knows) op reply new
    (told_first op (victim_of session old))
    (λ cycle is. marked cycle (told_is op (victim_of session old) cycle is))
    (subst (λ (standing : Standing). MayAsk standing op manner) (sym (calm_standing session old)) may.1)
    step
