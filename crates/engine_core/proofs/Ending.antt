-- The end of a transaction.
use Rattle.std.proofs.Common.{◌≡◌, ◌≢◌, ◌⊎◌, inl, inr, ℕ, ◌≤◌, ◌==◌, eq-eqb, Bool, true, false, not, ◌&&◌, ◌||◌, if◌then◌else◌, List, [], ◌∷◌, map, filter, Option, None, Some, is_none, refl, sym, ap, subst, ◌∙◌, eqb-true}
use Rattle.std.specs.List.{AllByRecursion}
use Rattle.value_types.specs.declared.value.Value.{Value}
use Rattle.step_model.specs.declared.resource.Resource.{Resource}
use Rattle.step_model.specs.Log.{Commit as LogEntry}
use Rattle.step_model.specs.Locks.{has_lock, is_x}
use Rattle.step_model.specs.Entries.{Entry, Pending, entry_on, seen_from}
use Rattle.step_model.specs.State.{Engine, has}
use Rattle.step_model.specs.Moves.{settle, drop_pending, without_session, stays, after_end}
use Rattle.history_laws.specs.Sane.{Sane, IsOwned}
use Rattle.history_laws.proofs.EntryLists.{all_filter}
use Rattle.history_laws.proofs.Sessions.{same_or_not, apart}
use Rattle.row_store.specs.Rows.{Rows, entries_of, belongs, is_owner, touches, remains, swept, AreBelow, DropsMaker, KeepsOthers}
use Rattle.lock_table.specs.Table.{SessionLock, of_session, ChangesLocks}
use Rattle.engine_core.specs.Transactions.{Opened, is_active, without_opened, AreNumbered}
use Rattle.engine_core.specs.Shown.{shown, shown_transaction, saved_at}
use Rattle.engine_core.specs.WellFormed.{IsIdle, IsHeld, AreHeld, IsReached}
use Rattle.engine_core.proofs.Sessions.{opened_left, active_left}
use Rattle.engine_core.proofs.Showing.{locks_shown}

-- what the end makes of an entry: only a state of the session changes its committed row
pub record IsEnd (session : ℕ) (f : Entry → Entry) : Type 0 where
  pub table : (e : Entry) → (f e).table ≡ e.table
  pub key : (e : Entry) → (f e).key ≡ e.key
  pub row : (e : Entry) → is_owner session e.pending ≡ false → (f e).committed ≡ e.committed

pub settle_ends : (session : ℕ) → IsEnd session (settle session)
settle_ends session = record { table = λ e. refl; key = λ e. refl; row = λ e. by_pending e e.pending }
  where
    by_pending : (e : Entry) (o : Option Pending) → is_owner session o ≡ false → seen_from session o e.committed ≡ e.committed
    by_pending e None is = refl
    by_pending e (Some p) is = rw is refl

pub drop_ends : (session : ℕ) → IsEnd session (drop_pending session)
drop_ends session = record { table = λ e. refl; key = λ e. refl; row = λ e is. refl }

pub numbered_left : (session : ℕ) (ts : List Opened) → AreNumbered ts → AreNumbered (without_opened session ts)
numbered_left session ts all = all_filter (λ t. AllByRecursion (λ mark. mark ≤ t.made) t.marks) (λ t. not (t.session == session)) ts all

module _ (rows newer : Rows) (locks new : List SessionLock) (active : List Opened) (session : ℕ) where
  pub idle_ended : IsIdle locks active → ChangesLocks session (λ own. []) locks new → IsIdle new (without_opened session active)
  idle_ended idle freed who closed = freed who ∙ by_test (who == session) (sym (active_left session who active) ∙ closed)
    where
      by_test : (b : Bool) → (if b then false else is_active who active) ≡ false → (if b then [] else of_session who locks) ≡ []
      by_test true is = refl
      by_test false is = idle who is

  pub reached_ended : IsReached rows active → KeepsOthers session rows newer → ((limit : ℕ) → AreBelow session limit newer) → IsReached newer (without_opened session active)
  reached_ended reached others none who level above = by_case (same_or_not who session)
    where
      by_case : (who ≡ session) ⊎ (who ≢ session) → AreBelow who level newer
      by_case (inl same) = rw same (none level)
      by_case (inr differ) = (others who differ).1 level (reached who level (rw (opened_left session who active, apart who session differ) at above))

module _ (rows : Rows) (locks : List SessionLock) (active : List Opened) (log : List LogEntry) (idle : IsIdle locks active) (session : ℕ) (f : Entry → Entry) (ends : IsEnd session f) where
  abbrev engine : Engine
  engine = shown rows locks active log

  or_true : (b : Bool) → b || true ≡ true
  or_true true = refl
  or_true false = refl

  or_false : (b : Bool) → b || false ≡ b
  or_false true = refl
  or_false false = refl

  -- the entry leaves just where the model says so
  leaves_is : (e : Entry) → IsOwned engine e e.pending → IsHeld rows locks e e.committed
      → is_none (f e).committed && touches session rows e ≡ is_none (f e).committed && has is_x session (entry_on e) engine
  leaves_is e owned held = by_owner (is_owner session e.pending) refl
    where
      has_is : has is_x session (entry_on e) engine ≡ has_lock is_x (entry_on e) (of_session session locks)
      has_is = ap (has_lock is_x (entry_on e)) (locks_shown rows locks active log idle session)

      untouched : (r : Option (List Value)) → IsHeld rows locks e r → is_none r && (belongs session rows e.table e.key || false) ≡ is_none r && has is_x session (entry_on e) engine
      untouched None h = or_false (belongs session rows e.table e.key) ∙ h session ∙ sym has_is
      untouched (Some r) h = refl

      mine : (p : Option Pending) → IsOwned engine e p → is_owner session p ≡ true → has is_x session (entry_on e) engine ≡ true
      mine None own is = cc
      mine (Some p) own is = subst (λ (n : ℕ). has is_x n (entry_on e) engine ≡ true) (eqb-true p.owner session is) own.0

      by_owner : (b : Bool) → is_owner session e.pending ≡ b → is_none (f e).committed && (belongs session rows e.table e.key || b) ≡ is_none (f e).committed && has is_x session (entry_on e) engine
      by_owner true is = rw (or_true (belongs session rows e.table e.key), mine e.pending owned is) refl
      by_owner false is = rw (ends.row e is) (untouched e.committed held)

  on_is : (e : Entry) → entry_on (f e) ≡ entry_on e
  on_is e = rw (ends.table e, ends.key e) refl

  stays_is : (e : Entry) → IsOwned engine e e.pending → IsHeld rows locks e e.committed → remains session f rows e ≡ stays session engine (f e)
  stays_is e owned held = ap not (leaves_is e owned held ∙ ap (λ (on : Resource). is_none (f e).committed && has is_x session on engine) (sym (on_is e)))

  swept_all : (es : List Entry) → AllByRecursion (λ e. IsOwned engine e e.pending) es → AreHeld rows locks es
      → map f (filter (remains session f rows) es) ≡ filter (stays session engine) (map f es)
  swept_all [] owned held = refl
  swept_all (e ∷ es) owned held = by_test (remains session f rows e) (stays session engine (f e)) (stays_is e owned.0 held.0) (swept_all es owned.1 held.1)
    where
      by_test : (a b : Bool) → a ≡ b → map f (filter (remains session f rows) es) ≡ filter (stays session engine) (map f es)
          → map f (if a then e ∷ filter (remains session f rows) es else filter (remains session f rows) es) ≡ (if b then f e ∷ filter (stays session engine) (map f es) else filter (stays session engine) (map f es))
      by_test true true same rest = ap (λ (xs : List Entry). f e ∷ xs) rest
      by_test false false same rest = rest
      by_test true false same rest = cc
      by_test false true same rest = cc

  module _ (newer : Rows) (new : List SessionLock) (freed : ChangesLocks session (λ own. []) locks new) where
    saved_same : (who : ℕ) → who ≢ session → KeepsOthers session rows newer → (marks : List ℕ) → map (saved_at who newer) marks ≡ map (saved_at who rows) marks
    saved_same who differ others [] = refl
    saved_same who differ others (m ∷ marks) = rw ((others who differ).0 m, saved_same who differ others marks) refl

    left_all : KeepsOthers session rows newer → (ts : List Opened) → map (shown_transaction newer new) (without_opened session ts) ≡ without_session session (map (shown_transaction rows locks) ts)
    left_all others [] = refl
    left_all others (x ∷ ts) = by_test (x.session == session) refl (left_all others ts)
      where
        by_test : (b : Bool) → (x.session == session) ≡ b → map (shown_transaction newer new) (without_opened session ts) ≡ without_session session (map (shown_transaction rows locks) ts)
            → map (shown_transaction newer new) (if not b then x ∷ without_opened session ts else without_opened session ts)
            ≡ (if not b then shown_transaction rows locks x ∷ without_session session (map (shown_transaction rows locks) ts) else without_session session (map (shown_transaction rows locks) ts))
        by_test true is rest = rest
        by_test false is rest =
            let lock_same : of_session x.session new ≡ of_session x.session locks = freed x.session ∙ ap (λ (b : Bool). if◌then◌else◌ b [] (of_session x.session locks)) is in
            rw (rest, lock_same, saved_same x.session (λ same. let h : true ≡ false = sym (eq-eqb x.session session same) ∙ is in cc) others x.marks) refl

    -- the model's end
    pub end_shown : (now : Engine) → engine ≡ now → Sane now → AreHeld rows locks (entries_of rows) → entries_of newer ≡ swept session f rows → KeepsOthers session rows newer → (log_then : List LogEntry)
        → shown newer new (without_opened session active) log_then ≡ after_end session f log_then now
    end_shown now is sane held entries others log_then = both ∙ ap (after_end session f log_then) is
      where
        saner : Sane engine
        saner = subst Sane (sym is) sane

        both : shown newer new (without_opened session active) log_then ≡ after_end session f log_then engine
        both = λ i. record { entries = (entries ∙ swept_all (entries_of rows) saner.pending held) i; active = left_all others active i; log = log_then }

    -- what stays is held as before
    held_one : DropsMaker session rows newer → (e : Entry) → IsHeld rows locks e e.committed → remains session f rows e ≡ true → IsHeld newer new (f e) (f e).committed
    held_one left e held stays_here = by_owner (is_owner session e.pending) refl (f e).committed refl stays_here
      where
        kept : (who : ℕ) → belongs who rows e.table e.key ≡ has_lock is_x (entry_on e) (of_session who locks) → belongs who newer (f e).table (f e).key ≡ has_lock is_x (entry_on (f e)) (of_session who new)
        kept who same = rw (ends.table e, ends.key e) (left who e.table e.key ∙ by_test (who == session) ∙ ap (has_lock is_x (entry_on e)) (sym (freed who)))
          where
            by_test : (b : Bool) → not b && belongs who rows e.table e.key ≡ has_lock is_x (entry_on e) (if b then [] else of_session who locks)
            by_test true = refl
            by_test false = same

        free : (r : Option (List Value)) → IsHeld rows locks e r → IsHeld newer new (f e) r
        free None h = λ who. kept who (h who)
        free (Some r) h = tt

        by_owner : (b : Bool) → is_owner session e.pending ≡ b → (row : Option (List Value)) → (f e).committed ≡ row → not (is_none row && (belongs session rows e.table e.key || b)) ≡ true → IsHeld newer new (f e) row
        by_owner true is None row_is remains_so = absurd (let h : not (belongs session rows e.table e.key || true) ≡ false = ap not (or_true (belongs session rows e.table e.key)) in let differ : false ≡ true = sym h ∙ remains_so in cc)
        by_owner true is (Some r) row_is remains_so = tt
        by_owner false is row row_is remains_so = subst (IsHeld newer new (f e)) (sym (ends.row e is) ∙ row_is) (free e.committed held)

    held_all : DropsMaker session rows newer → (es : List Entry) → AreHeld rows locks es → AreHeld newer new (map f (filter (remains session f rows) es))
    held_all left [] all = tt
    held_all left (e ∷ es) all = by_test (remains session f rows e) refl (held_all left es all.1)
      where
        by_test : (b : Bool) → remains session f rows e ≡ b → AreHeld newer new (map f (filter (remains session f rows) es))
            → AreHeld newer new (map f (if b then e ∷ filter (remains session f rows) es else filter (remains session f rows) es))
        by_test true is rest = (held_one left e all.0 is, rest)
        by_test false is rest = rest

    pub held_ended : DropsMaker session rows newer → entries_of newer ≡ swept session f rows → AreHeld rows locks (entries_of rows) → AreHeld newer new (entries_of newer)
    held_ended left entries held = subst (AreHeld newer new) (sym entries) (held_all left (entries_of rows) held)
