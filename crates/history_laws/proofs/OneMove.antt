-- One move of a session: it leaves a sane engine, and what other sessions have.
use Rattle.std.proofs.Common.{◌≡◌, ◌≢◌, ◌⊎◌, inl, inr, ℕ, zero, suc, ◌+◌, ◌==◌, Bool, true, false, if◌then◌else◌, List, [], ◌∷◌, ◌++◌, map, drop, Option, None, Some, is_some, IsTrue, refl, sym, ap, ◌∙◌, eqb-true, append-nil}
use Rattle.std.specs.Prelude.{is_none}
use Rattle.std.specs.List.{AllByRecursion, AllZip}
use Rattle.std.specs.Option.{option_and_then, option_map}
use Rattle.std.specs.Ordering.{is_eq}
use Rattle.std.specs.Cmp.{tied_itself}
use Rattle.lock_modes.specs.Modes.{range_i_n}
use Rattle.value_types.specs.declared.table_name.TableName.{TableName}
use Rattle.value_types.specs.declared.value.Value.{Value}
use Rattle.step_model.specs.declared.change.Change.{Change}
use Rattle.step_model.specs.declared.change.Planned.{Planned}
use Rattle.step_model.specs.declared.resource.Span.{Span}
use Rattle.step_model.specs.declared.resource.Span.TheVariants.{Transaction as Whole}
use Rattle.step_model.specs.Claims.{NoFoe, new_locks, inherits}
use Rattle.step_model.specs.Database.{is_at}
use Rattle.step_model.specs.Entries.{Entry, Pending, place_cmp, entry_at, entry_on, place_on, committed_at, put_entry, pending_by, pending_of, changes_by, change_at}
use Rattle.step_model.specs.Exchange.{Exchange}
use Rattle.step_model.specs.Fits.{Fits, changes_of_session, without_waits, at_of}
use Rattle.step_model.specs.Locks.{Lock, same_resource, is_x, is_any, key_on}
use Rattle.step_model.specs.Log.{Commit as Logged}
use Rattle.step_model.specs.Moves.{with_state, with_session, with_locks, add_locks, with_entry, new_entry, after_begin, after_mark, with_mark, after_back, cut_marks, restore, pending_from, of_others, state_of_mark, after_relax, drop_statement, after_end, after_commit, after_rollback, settle, drop_pending, stays, log_with, without_session}
use Rattle.step_model.specs.Own.{MarkedAt, progress_of, last_at, is_insert}
use Rattle.step_model.specs.State.{Engine, Saved, Transaction, locks_of, saved_of, has, is_open, saved_in, made_by}
use Rattle.history_laws.specs.Guarded.{Guarded}
use Rattle.history_laws.specs.Knows.{Accords, Tied, FirstsFit, SameMark}
use Rattle.history_laws.specs.Sane.{AreSaved, Sane, IsOwned}
use Rattle.history_laws.proofs.Basics.{find_passes}
use Rattle.history_laws.proofs.EntryOrder.{key_cmp_total}
use Rattle.history_laws.proofs.AtKey.{entry_put, entry_tied}
use Rattle.history_laws.proofs.Changes.{pending_there}
use Rattle.history_laws.proofs.Guards.{guarded_commit, entry_on_key, all_found}
use Rattle.history_laws.proofs.Pairs.{has_same, has_weaker, lonely}
use Rattle.history_laws.proofs.Places.{find_mapped}
use Rattle.history_laws.proofs.Sessions.{same_or_not, apart, open_changed, other_locks, other_saved, other_open, closed_other}
use Rattle.history_laws.proofs.Splits.{all_both}
use Rattle.history_laws.proofs.FitsGrows.{fits_grown}
use Rattle.history_laws.proofs.OwnChanges.{last_none, change_made}
use Rattle.history_laws.proofs.EntryLists.{set_look, at_itself, kept_entry}
use Rattle.history_laws.proofs.SaneMoves.{sane_alike, all_locks, all_saved, MayKeep, sane_granted, sane_set}
use Rattle.history_laws.proofs.SaneMarks.{not_some, sane_added, sane_mark, sane_back, sane_relax, sane_begin, saved_there}
use Rattle.history_laws.proofs.SaneEnds.{Ends, commit_ends, rollback_ends, sane_commit, sane_rollback, entry_ended, committed_ended, stays_locked}
use Rattle.history_laws.proofs.GuardMoves.{guarded_same, place_set, place_mapped, guarded_grown_other, guarded_swept}

-- an entry on which a session sets a state
abbrev pub set_engine : ℕ → List Value → Option (List Value) → Entry → Engine → Engine
set_engine session k row e engine =
    record engine {
      entries = put_entry (with_state (Some (record {
        owner = session;
        key = k;
        row = row;
      })) e) engine.entries;
    }

-- a change of waits and marks alone
pub record Shifts (f : Transaction → Transaction) : Type 0 where
  pub session : (t : Transaction) → (f t).session ≡ t.session
  pub locks : (t : Transaction) → (f t).locks ≡ t.locks
  pub marks : (t : Transaction) → (f t).marks ≡ t.marks

-- one move of a session, and what allows it
pub data Move (session : ℕ) (old new : Engine) : Type 0 where
  shifts : (who : ℕ) (f : Transaction → Transaction) → Shifts f → new ≡ with_session who f old
      → Move session old new
  begins : is_open session old ≡ false → new ≡ after_begin session old → Move session old new
  grants : (lock : Lock) → is_open session old ≡ true → NoFoe session lock.on lock.pair old → MayKeep old lock
      → new ≡ with_locks session (lock ∷ []) old → Move session old new
  sets : (t : TableName) (k : List Value) (row : Option (List Value)) (e : Entry)
      → entry_at old.entries t k ≡ Some e → has is_x session (entry_on e) old ≡ true
      → new ≡ set_engine session k row e old → Move session old new
  adds : (t : TableName) (k row : List Value) → is_open session old ≡ true → entry_at old.entries t k ≡ None
      → NoFoe session (place_on old.entries t k) range_i_n old
      → new ≡ with_entry session t k row (new_locks t k (inherits session t k old)) old → Move session old new
  marks : new ≡ after_mark session old → Move session old new
  goes_back : (m : ℕ) → new ≡ after_back session m old → Move session old new
  relaxes : new ≡ after_relax session old → Move session old new
  commits : new ≡ after_commit session old → Move session old new
  rolls_back : new ≡ after_rollback session old → Move session old new

pub sane_shift : (who : ℕ) (f : Transaction → Transaction) → Shifts f → (old : Engine) → Sane old
    → Sane (with_session who f old)
sane_shift who f shift old sane =
    sane_alike old (with_session who f old) sane refl refl (all_locks who f shift.session shift.locks old)
    (all_saved who f shift.session shift.marks old)

pub sane_move : (session : ℕ) (old new : Engine) → Sane old → Move session old new → Sane new
sane_move session old new sane (shifts who f shift is) = rw is (sane_shift who f shift old sane)
sane_move session old new sane (begins without_session is) = rw is (sane_begin session old sane without_session)
sane_move session old new sane (grants lock there free may is) =
    rw is (sane_granted session old lock sane there free may)
sane_move session old new sane (sets t k row e found x is) =
    rw is (sane_set old sane e t k found (record {
      owner = session;
      key = k;
      row = row;
    }) (tied_itself key_cmp_total k) x)
sane_move session old new sane (adds t k row there absent free is) =
    rw is (sane_added session old sane there t k row absent (inherits session t k old))
sane_move session old new sane (marks is) = rw is (sane_mark session old sane)
sane_move session old new sane (goes_back m is) = rw is (sane_back session m old sane)
sane_move session old new sane (relaxes is) = rw is (sane_relax session old sane)
sane_move session old new sane (commits is) = rw is (sane_commit session old sane)
sane_move session old new sane (rolls_back is) = rw is (sane_rollback session old sane)

-- ---- what a session keeps while another one moves

pub record Frame (t : ℕ) (old new : Engine) : Type 0 where
  pub opened : is_open t new ≡ is_open t old
  pub saved : saved_of t new ≡ saved_of t old
  pub pending : (u : TableName) (x : List Value)
      → change_at (pending_of t new.entries) u x ≡ change_at (pending_of t old.entries) u x
  pub committed : (u : TableName) (x : List Value) → has is_x t (key_on u x) old ≡ true
      → committed_at new.entries u x ≡ committed_at old.entries u x
  pub guarded : (span : Span) (u : TableName) (x : List Value) → Guarded span t u x old → Guarded span t u x new
  pub more : List Logged
  pub log : new.log ≡ old.log ++ more
  pub theirs : changes_of_session t more ≡ []
  pub untouched : (span : Span) (u : TableName) (x : List Value) → Guarded span t u x old
      → AllByRecursion (λ commit. change_at commit.changes u x ≡ None) more

-- the same entries and log, and the same of this session
frame_alike : (t : ℕ) (old new : Engine) → new.entries ≡ old.entries → new.log ≡ old.log
    → is_open t new ≡ is_open t old → saved_of t new ≡ saved_of t old → locks_of t new ≡ locks_of t old
    → Frame t old new
frame_alike t old new entries log opened saved locks = record {
  opened = opened;
  saved = saved;
  pending = λ u x. ap (λ (es : List Entry). change_at (pending_of t es) u x) entries;
  committed = λ u x locked. ap (λ (es : List Entry). committed_at es u x) entries;
  guarded = λ span u x. guarded_same old new t span u x (ap (λ (es : List Entry). place_on es u x) entries)
      (λ test on is. rw locks is);
  more = [];
  log = log ∙ sym (append-nil old.log);
  theirs = refl;
  untouched = λ span u x guarded. tt;
}

-- it leaves all of each session
all_open : (who : ℕ) (f : Transaction → Transaction) → ((t : Transaction) → (f t).session ≡ t.session)
    → (engine : Engine) (s : ℕ) → is_open s (with_session who f engine) ≡ is_open s engine
all_open who f keeps engine s = by_case (same_or_not s who)
  where
    by_case : (s ≡ who) ⊎ (s ≢ who) → is_open s (with_session who f engine) ≡ is_open s engine
    by_case (inl is) = rw is (open_changed who f keeps engine)
    by_case (inr differ) = other_open who f keeps s differ engine

pub frame_shift : (who : ℕ) (f : Transaction → Transaction) → Shifts f → (t : ℕ) (old : Engine)
    → Frame t old (with_session who f old)
frame_shift who f shift t old =
    frame_alike t old (with_session who f old) refl refl (all_open who f shift.session old t)
    (all_saved who f shift.session shift.marks old t) (all_locks who f shift.session shift.locks old t)

-- what a session has set at the entry of a key
abbrev pub pend : ℕ → Option Entry → Option Change
pend t o = option_and_then (λ e. pending_by t e e.pending) o

module _ (session t : ℕ) (differ : t ≢ session) where
  frame_changed : (f : Transaction → Transaction) → ((tr : Transaction) → (f tr).session ≡ tr.session)
      → (old : Engine) → Frame t old (with_session session f old)
  frame_changed f keeps old =
      frame_alike t old (with_session session f old) refl refl (other_open session f keeps t differ old)
      (other_saved session f keeps t differ old) (other_locks session f keeps t differ old)

  frame_begin : (old : Engine) → Frame t old (after_begin session old)
  frame_begin old =
      frame_alike t old (after_begin session old) refl refl (rw elsewhere refl) (rw elsewhere refl)
      (rw elsewhere refl)
    where
      elsewhere : (session == t) ≡ false
      elsewhere = apart session t (λ is. differ (sym is))

  -- a pending state of one who has X is no one else's
  not_theirs : (old : Engine) → Sane old → (e : Entry) → has is_x session (entry_on e) old ≡ true
      → (o : Option Pending) → IsOwned old e o → pending_by t e o ≡ None
  not_theirs old sane e x None owned = refl
  not_theirs old sane e x (Some pending) owned = by_owner (pending.owner == t) refl
    where
      by_owner : (b : Bool) → (pending.owner == t) ≡ b
          → (if b then Some (change_made e pending) else None) ≡ None
      by_owner true is =
          let theirs : pending.owner ≡ t = eqb-true pending.owner t is in
          absurd (lonely old sane session t (λ same. differ (sym same)) (entry_on e) x
          (has_weaker is_x is_any (λ lock is. refl) (entry_on e) (locks_of t old) (rw (← theirs) owned.0)))
      by_owner false is = refl

  elsewhere : (session == t) ≡ false
  elsewhere = apart session t (λ is. differ (sym is))

  frame_set : (old : Engine) → Sane old
      → (u : TableName) (k : List Value) (row : Option (List Value)) (e : Entry)
      → entry_at old.entries u k ≡ Some e → has is_x session (entry_on e) old ≡ true
      → Frame t old (set_engine session k row e old)
  frame_set old sane u k row e found x = record {
    opened = refl;
    saved = refl;
    pending = λ v y. pending_there (set_engine session k row e old) t (set_engine session k row e old).entries
        now.pending now.ordered v y
        ∙ set_look old.entries e u k found (λ e. pending_by t e e.pending) (with_state (Some state) e)
        (λ v y. refl) (rw elsewhere (sym (not_theirs old sane e x e.pending owned))) v y
        ∙ sym (pending_there old t old.entries sane.pending sane.ordered v y);
    committed = λ v y locked. set_look old.entries e u k found (λ e. e.committed) (with_state (Some state) e)
        (λ v y. refl) refl v y;
    guarded = λ span v y. guarded_same old (set_engine session k row e old) t span v y
        (place_set e (Some state) old.entries sane.ordered (at_itself old.entries e u k found) v y)
        (λ test on is. is);
    more = [];
    log = sym (append-nil old.log);
    theirs = refl;
    untouched = λ span v y guarded. tt;
  }
    where
      state : Pending
      state = record { owner = session; key = k; row = row }

      now : Sane (set_engine session k row e old)
      now = sane_set old sane e u k found (record {
        owner = session;
        key = k;
        row = row;
      }) (tied_itself key_cmp_total k) x

      owned : IsOwned old e e.pending
      owned = all_found (λ e. IsOwned old e e.pending) (λ entry. is_eq (place_cmp u k entry)) old.entries e
          sane.pending found

  frame_add : (old : Engine) → Sane old → (u : TableName) (k row : List Value) → is_open session old ≡ true
      → entry_at old.entries u k ≡ None → NoFoe session (place_on old.entries u k) range_i_n old
      → Frame t old (with_entry session u k row (new_locks u k (inherits session u k old)) old)
  frame_add old sane u k row there absent free = record {
    opened = other_open session (add_locks (new_locks u k (inherits session u k old))) (λ tr. refl) t differ
        (record old { entries = put_entry (new_entry session u k row) old.entries });
    saved = other_saved session (add_locks (new_locks u k (inherits session u k old))) (λ tr. refl) t differ
        (record old { entries = put_entry (new_entry session u k row) old.entries });
    pending = λ v y. pending_there new t new.entries now.pending now.ordered v y
        ∙ at_new (λ e. pending_by t e e.pending) (rw elsewhere refl) v y
        ∙ sym (pending_there old t old.entries sane.pending sane.ordered v y);
    committed = λ v y locked. at_new (λ e. e.committed) refl v y;
    guarded = guarded_grown_other session old sane there u k row absent t differ free;
    more = [];
    log = sym (append-nil old.log);
    theirs = refl;
    untouched = λ span v y guarded. tt;
  }
    where
      new : Engine
      new = with_entry session u k row (new_locks u k (inherits session u k old)) old

      now : Sane (with_entry session u k row (new_locks u k (inherits session u k old)) old)
      now = sane_added session old sane there u k row absent (inherits session u k old)

      at_new : {A : Type 0} (g : Entry → Option A) → g (new_entry session u k row) ≡ None
          → (v : TableName) (y : List Value)
          → option_and_then g (entry_at (put_entry (new_entry session u k row) old.entries) v y)
          ≡ option_and_then g (entry_at old.entries v y)
      at_new {A} g none v y = ap (option_and_then g) (entry_put (new_entry session u k row) old.entries v y)
          ∙ by_test (is_eq (place_cmp v y (new_entry session u k row))) refl
        where
          by_test : (b : Bool) → is_eq (place_cmp v y (new_entry session u k row)) ≡ b
              → option_and_then g (if b then Some (new_entry session u k row) else entry_at old.entries v y)
              ≡ option_and_then g (entry_at old.entries v y)
          by_test true is =
              none ∙ sym (ap (option_and_then g) (entry_tied v y (new_entry session u k row) old.entries is
              ∙ absent))
          by_test false is = refl

  -- the pending states of others are the same without those of the session
  others_same : (e : Entry) (o : Option Pending) → pending_by t e (of_others session o) ≡ pending_by t e o
  others_same e None = refl
  others_same e (Some pending) = by_owner (pending.owner == session) refl
    where
      by_owner : (b : Bool) → (pending.owner == session) ≡ b
          → pending_by t e (if b then None else Some pending) ≡ pending_by t e (Some pending)
      by_owner true is =
          let own : pending.owner ≡ session = eqb-true pending.owner session is in
          let not_t : (pending.owner == t) ≡ false = apart pending.owner t (λ same. differ (sym same ∙ own)) in
          rw not_t refl
      by_owner false is = refl

  frame_back : (m : ℕ) (old : Engine) → Sane old → Frame t old (after_back session m old)
  frame_back m old sane = record {
    opened = other_open session (cut_marks m) (λ tr. refl) t differ mid;
    saved = other_saved session (cut_marks m) (λ tr. refl) t differ mid;
    pending = λ v y. pending_there (after_back session m old) t mid.entries
        (sane_back session m old sane).pending (sane_back session m old sane).ordered v y
        ∙ ap (pend t) (found v y) ∙ by_entry v y (entry_at old.entries v y) refl
        ∙ sym (pending_there old t old.entries sane.pending sane.ordered v y);
    committed = λ v y locked. ap (option_and_then (λ e. e.committed)) (found v y)
        ∙ by_row (entry_at old.entries v y);
    guarded = λ span v y. guarded_same old (after_back session m old) t span v y
        (place_mapped (restore session saved) (λ e. refl) (λ e. refl) old.entries v y)
        (λ test on is. rw (other_locks session (cut_marks m) (λ tr. refl) t differ mid) is);
    more = [];
    log = sym (append-nil old.log);
    theirs = refl;
    untouched = λ span v y guarded. tt;
  }
    where
      saved : List Change
      saved = state_of_mark m (saved_of session old)

      mid : Engine
      mid = record old { entries = map (restore session (state_of_mark m (saved_of session old))) old.entries }

      all_saved_x : AllByRecursion (λ change. IsTrue (has is_x session (key_on change.table change.key) old))
          (state_of_mark m (saved_of session old))
      all_saved_x = saved_there session old m (saved_of session old) (sane.saved session)

      found : (v : TableName) (y : List Value)
          → entry_at (map (restore session (state_of_mark m (saved_of session old))) old.entries) v y
          ≡ option_map (restore session (state_of_mark m (saved_of session old))) (entry_at old.entries v y)
      found v y = find_mapped (λ entry. is_eq (place_cmp v y entry))
          (restore session (state_of_mark m (saved_of session old))) (λ e. refl) old.entries

      by_row : (o : Option Entry)
          → option_and_then (λ (e : Entry). e.committed)
          (option_map (restore session (state_of_mark m (saved_of session old))) o)
          ≡ option_and_then (λ (e : Entry). e.committed) o
      by_row None = refl
      by_row (Some e) = refl

      by_change : (e : Entry) → IsOwned old e e.pending → (o : Option Change)
          → change_at (state_of_mark m (saved_of session old)) e.table e.key ≡ o
          → pending_by t (restore session (state_of_mark m (saved_of session old)) e)
          (pending_from session o (of_others session e.pending)) ≡ pending_by t e e.pending
      by_change e owned None is = others_same e e.pending
      by_change e owned (Some change) is =
          let here : is_at change e.table e.key ≡ true =
          find_passes (λ change. is_at change e.table e.key) (state_of_mark m (saved_of session old))
          change is in
          let x_there =
          all_found (λ change. IsTrue (has is_x session (key_on change.table change.key) old))
          (λ change. is_at change e.table e.key) (state_of_mark m (saved_of session old)) change
          all_saved_x is in
          let same : same_resource (key_on change.table change.key) (entry_on e) ≡ true = here in
          rw elsewhere
          (sym (not_theirs old sane e
          (sym (has_same is_x (key_on change.table change.key) (entry_on e) (locks_of session old) same)
          ∙ x_there) e.pending owned))

      by_entry : (v : TableName) (y : List Value) → (o : Option Entry) → entry_at old.entries v y ≡ o
          → pend t (option_map (restore session (state_of_mark m (saved_of session old))) o) ≡ pend t o
      by_entry v y None is = refl
      by_entry v y (Some e) is =
          by_change e (all_found (λ e. IsOwned old e e.pending) (λ entry. is_eq (place_cmp v y entry))
          old.entries e sane.pending is) (change_at (state_of_mark m (saved_of session old)) e.table e.key) refl

  module _ (old : Engine) (sane : Sane old) (f : Entry
      → Entry) (log : List Logged) (ends : Ends session old f log) (now : Sane (after_end session f log old))
      (added : List Logged) (grown : log ≡ old.log ++ added) (theirs : changes_of_session t added ≡ [])
      (untouched : (span : Span) (u : TableName) (x : List Value) → Guarded span t u x old
      → AllByRecursion (λ commit. change_at commit.changes u x ≡ None) added) where
    end_pend : (e : Entry) (o : Option Pending) → e.pending ≡ o → IsOwned old e o
        → pend t (if stays session old (f e) then Some (f e) else None) ≡ pending_by t e o
    end_pend e o is owned = by_stay (stays session old (f e)) refl
      where
        held_too : (o : Option Pending) → IsOwned old e o → stays session old (f e) ≡ false
            → pending_by t e o ≡ None
        held_too None owned gone = refl
        held_too (Some pending) owned gone = by_owner (pending.owner == t) refl
          where
            by_owner : (b : Bool) → (pending.owner == t) ≡ b
                → (if b then Some (change_made e pending) else None) ≡ None
            by_owner true is =
                let own : pending.owner ≡ t = eqb-true pending.owner t is in
                let any : has is_any t (entry_on e) old ≡ true =
                has_weaker is_x is_any (λ lock is. refl) (entry_on e) (locks_of t old) (rw (← own) owned.0)
                in
                absurd (let h : false ≡ true = sym gone
                ∙ stays_locked session old sane f log ends t differ e any in cc)
            by_owner false is = refl

        moved_table : (g : Entry) → g.table ≡ e.table → (o : Option Pending)
            → pending_by t g o ≡ pending_by t e o
        moved_table g tables None = refl
        moved_table g tables (Some pending) = by_owner (pending.owner == t)
          where
            by_owner : (b : Bool) → (if b then Some (change_made g pending) else None)
                ≡ (if b then Some (change_made e pending) else None)
            by_owner true = rw tables refl
            by_owner false = refl

        by_stay : (b : Bool) → stays session old (f e) ≡ b
            → pend t (if b then Some (f e) else None) ≡ pending_by t e o
        by_stay true stay = ap (pending_by t (f e)) (ends.pending e ∙ ap (of_others session) is)
            ∙ moved_table (f e) (ends.table e) (of_others session o) ∙ others_same e o
        by_stay false gone = sym (held_too o owned gone)

    frame_end : Frame t old (after_end session f log old)
    frame_end = record {
      opened = ap is_some (closed_other session t differ old.active);
      saved = ap (λ (o : Option Transaction). saved_in o) (closed_other session t differ old.active);
      pending = λ v y. pending_there (after_end session f log old) t (after_end session f log old).entries
          now.pending now.ordered v y
          ∙ ap (pend t) (entry_ended session old sane f log ends v y)
          ∙ by_entry v y (entry_at old.entries v y) refl
          ∙ sym (pending_there old t old.entries sane.pending sane.ordered v y);
      committed = λ v y locked. committed_ended session old sane f log ends v y
          ∙ by_row v y locked (entry_at old.entries v y) refl;
      guarded = guarded_swept session old sane f log ends t differ;
      more = added;
      log = grown;
      theirs = theirs;
      untouched = untouched;
    }
      where
        by_entry : (v : TableName) (y : List Value) (o : Option Entry) → entry_at old.entries v y ≡ o
            → pend t (kept_entry (stays session old) (option_map f o)) ≡ pend t o
        by_entry v y None is = refl
        by_entry v y (Some e) is =
            end_pend e e.pending refl
            (all_found (λ e. IsOwned old e e.pending) (λ entry. is_eq (place_cmp v y entry)) old.entries e
            sane.pending is)

        by_row : (v : TableName) (y : List Value) → has is_x t (key_on v y) old ≡ true → (o : Option Entry)
            → entry_at old.entries v y ≡ o
            → option_and_then (λ e. (f e).committed) o ≡ option_and_then (λ e. e.committed) o
        by_row v y locked None is = refl
        by_row v y locked (Some e) is =
            let any : has is_any t (entry_on e) old ≡ true =
            has_weaker is_x is_any (λ lock is. refl) (entry_on e) (locks_of t old)
            (sym (has_same is_x (key_on v y) (entry_on e) (locks_of t old)
            (entry_on_key old.entries v y e is)) ∙ locked) in
            let lone : has is_x session (entry_on e) old ≡ false =
            not_some (has is_x session (entry_on e) old)
            (λ x. lonely old sane session t (λ same. differ (sym same)) (entry_on e) x any) in
            ends.keeps e
            (all_found (λ e. IsOwned old e e.pending) (λ entry. is_eq (place_cmp v y entry)) old.entries e
            sane.pending is) lone

  -- the commit that is added to the log, if any
  abbrev pub added_commit : List Change → List Logged
  added_commit [] = []
  added_commit (change ∷ changes) = record { session = session; changes = change ∷ changes } ∷ []

  pub log_grown : (log : List Logged) (changes : List Change)
      → log_with log session changes ≡ log ++ added_commit changes
  log_grown log [] = sym (append-nil log)
  log_grown log (change ∷ changes) = refl

  not_theirs_log : (changes : List Change) → changes_of_session t (added_commit changes) ≡ []
  not_theirs_log [] = refl
  not_theirs_log (change ∷ changes) = rw elsewhere refl

  all_added : (u : TableName) (x : List Value) (changes : List Change) → change_at changes u x ≡ None
      → AllByRecursion (λ commit. change_at commit.changes u x ≡ None) (added_commit changes)
  all_added u x [] none = tt
  all_added u x (change ∷ changes) none = (none, tt)

  pub frame_move : (old new : Engine) → Sane old → Move session old new → Frame t old new
  frame_move old new sane (shifts who f shift is) = rw is (frame_shift who f shift t old)
  frame_move old new sane (begins without_session is) = rw is (frame_begin old)
  frame_move old new sane (grants lock there free may is) =
      rw is (frame_changed (add_locks (lock ∷ [])) (λ tr. refl) old)
  frame_move old new sane (sets u k row e found x is) = rw is (frame_set old sane u k row e found x)
  frame_move old new sane (adds u k row there absent free is) =
      rw is (frame_add old sane u k row there absent free)
  frame_move old new sane (marks is) =
      rw is (frame_changed (with_mark (made_by session old + 1) (pending_of session old.entries)) (λ tr. refl)
      old)
  frame_move old new sane (goes_back m is) = rw is (frame_back m old sane)
  frame_move old new sane (relaxes is) = rw is (frame_changed drop_statement (λ tr. refl) old)
  frame_move old new sane (commits is) =
      rw is (frame_end old sane (settle session) (log_with old.log session (changes_by session old.entries))
      (commit_ends session old sane) (sane_commit session old sane)
      (added_commit (changes_by session old.entries)) (log_grown old.log (changes_by session old.entries))
      (not_theirs_log (changes_by session old.entries))
      (λ span u x guarded. all_added u x (changes_by session old.entries)
      (guarded_commit old sane session t (λ same. differ (sym same)) u x span guarded)))
  frame_move old new sane (rolls_back is) =
      rw is (frame_end old sane (drop_pending session) old.log (rollback_ends session old sane)
      (sane_rollback session old sane) [] (sym (append-nil old.log)) refl (λ span u x guarded. tt))

-- ---- what a state knows of another session it knows after the move

all_drop : {A : Type 0} (P : A → Type 0) (n : ℕ) (ys : List A) → AllByRecursion P ys
    → AllByRecursion P (drop n ys)
all_drop P zero [] all = tt
all_drop P zero (y ∷ ys) all = all
all_drop P (suc n) [] all = tt
all_drop P (suc n) (y ∷ ys) all = all_drop P n ys all.1

pub drop_more : {A : Type 0} (P : A → Type 0) (n : ℕ) (xs ys : List A) → AllByRecursion P (drop n xs)
    → AllByRecursion P ys → AllByRecursion P (drop n (xs ++ ys))
drop_more P zero [] ys one other = all_drop P zero ys other
drop_more P zero (x ∷ xs) ys one other = all_both P (x ∷ xs) ys one other
drop_more P (suc n) [] ys one other = all_drop P (suc n) ys other
drop_more P (suc n) (x ∷ xs) ys one other = drop_more P n xs ys one other

module _ (t : ℕ) (old new : Engine) (sane : Sane old) (frame : Frame t old new) (mine : List Exchange)
    (tied : Tied old t mine) where
  firsts_kept : (own : List Planned)
      → ((u : TableName) (x : List Value) (c : Change) → last_at own u x ≡ Some c
      → has is_x t (key_on u x) old ≡ true) → FirstsFit old.entries own → FirstsFit new.entries own
  firsts_kept own locked firsts u x planned is = by_last (last_at own u x) refl
    where
      by_last : (o : Option Change) → last_at own u x ≡ o
          → is_insert planned.deed ≡ is_none (committed_at new.entries u x)
      by_last None last = absurd (let none = last_none own u x last in let h : None ≡ Some planned = sym none
          ∙ is in cc)
      by_last (Some c) last = firsts u x planned is ∙ ap is_none (sym (frame.committed u x (locked u x c last)))

  -- what the session has set it has X on
  own_locked : (u : TableName) (x : List Value) (c : Change)
      → change_at (pending_of t old.entries) u x ≡ Some c → has is_x t (key_on u x) old ≡ true
  own_locked u x c is =
      by_entry (entry_at old.entries u x) refl
      (sym (pending_there old t old.entries sane.pending sane.ordered u x) ∙ is)
    where
      by_pending : (e : Entry) → entry_at old.entries u x ≡ Some e → (o : Option Pending) → IsOwned old e o
          → pending_by t e o ≡ Some c → has is_x t (key_on u x) old ≡ true
      by_pending e found None owned is = cc
      by_pending e found (Some pending) owned is = by_owner (pending.owner == t) refl is
        where
          by_owner : (b : Bool) → (pending.owner == t) ≡ b
              → (if b then Some (change_made e pending) else None) ≡ Some c → has is_x t (key_on u x) old ≡ true
          by_owner true own is =
              has_same is_x (key_on u x) (entry_on e) (locks_of t old) (entry_on_key old.entries u x e found)
              ∙ rw (← (eqb-true pending.owner t own)) owned.0
          by_owner false own is = cc

      by_entry : (o : Option Entry) → entry_at old.entries u x ≡ o → pend t o ≡ Some c
          → has is_x t (key_on u x) old ≡ true
      by_entry None found is = cc
      by_entry (Some e) found is =
          by_pending e found e.pending
          (all_found (λ e. IsOwned old e e.pending) (λ entry. is_eq (place_cmp u x entry)) old.entries e
          sane.pending found) is

  saved_locked : (saved : List Change)
      → AllByRecursion (λ change. IsTrue (has is_x t (key_on change.table change.key) old)) saved
      → (u : TableName) (x : List Value) (c : Change) → change_at saved u x ≡ Some c
      → has is_x t (key_on u x) old ≡ true
  saved_locked saved all u x c is =
      let here : is_at c u x ≡ true = find_passes (λ change. is_at change u x) saved c is in
      let same : same_resource (key_on c.table c.key) (key_on u x) ≡ true = here in
      sym (has_same is_x (key_on c.table c.key) (key_on u x) (locks_of t old) same)
      ∙ all_found (λ change. IsTrue (has is_x t (key_on change.table change.key) old))
      (λ change. is_at change u x) saved c all is

  marks_kept : (saved : List Saved) (marked : List MarkedAt) → AreSaved t old saved
      → AllZip (SameMark old.entries) saved marked → AllZip (SameMark new.entries) saved marked
  marks_kept [] [] all zip = zip
  marks_kept [] (m ∷ marked) all zip = zip
  marks_kept (s ∷ saved) [] all zip = zip
  marks_kept (s ∷ saved) (m ∷ marked) all zip = (
    record {
      mark = zip.0.mark;
      own = zip.0.own;
      first = firsts_kept m.own (λ u x c last. saved_locked s.pending all.0 u x c (zip.0.own u x
          ∙ last)) zip.0.first;
    },
    marks_kept saved marked all.1 zip.1,
  )

  pub tied_frame : Tied new t mine
  tied_frame = record {
    is_open = frame.opened ∙ tied.is_open;
    own = λ u x. frame.pending u x ∙ tied.own u x;
    first = firsts_kept (progress_of mine).own (λ u x c last. own_locked u x c (tied.own u x
        ∙ last)) tied.first;
    marks = rw frame.saved (marks_kept (saved_of t old) (progress_of mine).marks (sane.saved t) tied.marks);
    relied = λ span u x relies. frame.guarded span u x (tied.relied span u x relies);
    steady = λ before exchange later split none fetches span u x keys.
        rw frame.log (drop_more (λ commit. change_at commit.changes u x
        ≡ None) (at_of exchange.reply) old.log frame.more
        (tied.steady before exchange later split none fetches span u x keys)
        (frame.untouched span u x (tied.relied span u x (record {
          before = before;
          exchange = exchange;
          later = later;
          split = split;
          opened = none;
          keys = keys;
        }))));
  }

  pub fits_frame : Fits t [] old.log mine → Fits t [] new.log mine
  fits_frame fits =
      rw frame.log
      (fits_grown t old.log frame.more mine fits frame.theirs
      (λ u x relies. frame.untouched Whole u x (tied.relied Whole u x relies)))

-- a session's move keeps what is known of each other one
pub accords_other : (session t : ℕ) → t ≢ session → (old new : Engine) (steps : List Exchange)
    → Move session old new → Accords old t steps → Accords new t steps
accords_other session t differ old new steps move knows =
    let frame = frame_move session t differ old new knows.sane move in
    record {
      sane = sane_move session old new knows.sane move;
      fits = fits_frame t old new knows.sane frame (without_waits steps) knows.tied knows.fits;
      tied = tied_frame t old new knows.sane frame (without_waits steps) knows.tied;
    }
