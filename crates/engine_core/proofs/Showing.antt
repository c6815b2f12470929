-- The parts of the engine as the state of the model: what a session has there, and what a change of the parts is.
use Rattle.std.proofs.Common.{◌≡◌, ℕ, ◌==◌, Bool, true, false, if◌then◌else◌, List, [], ◌∷◌, ◌++◌, map, Option, None, Some, is_some, append-nil, refl, sym, ap, ◌∙◌, eqb-true}
use Rattle.std.specs.Option.{option_map}
use Rattle.lock_modes.specs.declared.Pair.{Pair}
use Rattle.step_model.specs.declared.resource.Resource.{Resource}
use Rattle.step_model.specs.Log.{Commit as LogEntry}
use Rattle.step_model.specs.Locks.{Lock, pair_on}
use Rattle.step_model.specs.State.{Engine, Saved, Transaction, transaction_in, locks_in, locks_of, saved_in, saved_of, made_in as made_inside, made_by, victim_in, victim_of, is_open}
use Rattle.step_model.specs.Moves.{with_session_in, with_session, with_locks}
use Rattle.step_model.specs.Claims.{NoFoe, IsFoe}
use Rattle.history_laws.proofs.Basics.{find_passes}
use Rattle.row_store.specs.Rows.{Rows, entries_of}
use Rattle.lock_table.specs.Table.{SessionLock, of_session, ChangesLocks, KeepsLocks, NoFoeIn, IsFoeIn}
use Rattle.engine_core.specs.Transactions.{Opened, opened_in, is_active, made_of, made_in, marks_of, marks_in, mark_of, mark_in}
use Rattle.engine_core.specs.Shown.{shown, shown_transaction, saved_at}
use Rattle.engine_core.specs.WellFormed.{IsIdle}
use Rattle.engine_core.proofs.Sessions.{active_found}

-- ---- what a session has

pub session_found : (who : ℕ) (ts : List Opened) (t : Opened) → opened_in who ts ≡ Some t → t.session ≡ who
session_found who ts t is = eqb-true t.session who (find_passes (λ (o : Opened). o.session == who) ts t is)

module _ (rows : Rows) (locks : List SessionLock) where
  found_shown : (who : ℕ) (ts : List Opened) → transaction_in who (map (shown_transaction rows locks) ts) ≡ option_map (shown_transaction rows locks) (opened_in who ts)
  found_shown who [] = refl
  found_shown who (x ∷ ts) = by_test (x.session == who) (found_shown who ts)
    where
      by_test : (b : Bool) → transaction_in who (map (shown_transaction rows locks) ts) ≡ option_map (shown_transaction rows locks) (opened_in who ts)
          → (if b then Some (shown_transaction rows locks x) else transaction_in who (map (shown_transaction rows locks) ts)) ≡ option_map (shown_transaction rows locks) (if b then Some x else opened_in who ts)
      by_test true rest = refl
      by_test false rest = rest

  pub open_shown : (ts : List Opened) (log : List LogEntry) (who : ℕ) → is_open who (shown rows locks ts log) ≡ is_active who ts
  open_shown ts log who = ap is_some (found_shown who ts) ∙ by_found (opened_in who ts) ∙ active_found who ts
    where
      by_found : (o : Option Opened) → is_some (option_map (shown_transaction rows locks) o) ≡ is_some o
      by_found None = refl
      by_found (Some t) = refl

  pub begun_shown : (ts : List Opened) (log : List LogEntry) (now : Engine) → shown rows locks ts log ≡ now → (who : ℕ) (b : Bool) → is_open who now ≡ b → is_active who ts ≡ b
  begun_shown ts log now is who b begun = sym (open_shown ts log who) ∙ ap (is_open who) is ∙ begun

  pub locks_shown : (ts : List Opened) (log : List LogEntry) → IsIdle locks ts → (who : ℕ) → locks_of who (shown rows locks ts log) ≡ of_session who locks
  locks_shown ts log idle who = ap locks_in (found_shown who ts) ∙ by_found (opened_in who ts) refl
    where
      by_found : (o : Option Opened) → opened_in who ts ≡ o → locks_in (option_map (shown_transaction rows locks) o) ≡ of_session who locks
      by_found None is = sym (idle who (sym (active_found who ts) ∙ ap is_some is))
      by_found (Some t) is = ap (λ (n : ℕ). of_session n locks) (session_found who ts t is)

  pub made_shown : (ts : List Opened) (log : List LogEntry) (who : ℕ) → made_by who (shown rows locks ts log) ≡ made_in who ts
  made_shown ts log who = ap made_inside (found_shown who ts) ∙ by_found (opened_in who ts)
    where
      by_found : (o : Option Opened) → made_inside (option_map (shown_transaction rows locks) o) ≡ made_of o
      by_found None = refl
      by_found (Some t) = refl

  pub saved_shown : (ts : List Opened) (log : List LogEntry) (who : ℕ) → saved_of who (shown rows locks ts log) ≡ map (saved_at who rows) (marks_in who ts)
  saved_shown ts log who = ap saved_in (found_shown who ts) ∙ by_found (opened_in who ts) refl
    where
      by_found : (o : Option Opened) → opened_in who ts ≡ o → saved_in (option_map (shown_transaction rows locks) o) ≡ map (saved_at who rows) (marks_of o)
      by_found None is = refl
      by_found (Some t) is = ap (λ (n : ℕ). map (saved_at n rows) t.marks) (session_found who ts t is)

  pub victim_shown : (ts : List Opened) (log : List LogEntry) (who : ℕ) → victim_of who (shown rows locks ts log) ≡ mark_in who ts
  victim_shown ts log who = ap victim_in (found_shown who ts) ∙ by_found (opened_in who ts)
    where
      by_found : (o : Option Opened) → victim_in (option_map (shown_transaction rows locks) o) ≡ mark_of o
      by_found None = refl
      by_found (Some t) = refl

  numbers_all : (who : ℕ) (marks : List ℕ) → map (λ (s : Saved). s.mark) (map (saved_at who rows) marks) ≡ marks
  numbers_all who [] = refl
  numbers_all who (m ∷ marks) = ap (λ (ms : List ℕ). m ∷ ms) (numbers_all who marks)

  pub numbers_shown : (ts : List Opened) (log : List LogEntry) (who : ℕ) → map (λ (s : Saved). s.mark) (saved_of who (shown rows locks ts log)) ≡ marks_in who ts
  numbers_shown ts log who = ap (map (λ (s : Saved). s.mark)) (saved_shown ts log who) ∙ numbers_all who (marks_in who ts)

  pub no_foe_shown : (ts : List Opened) (log : List LogEntry) → IsIdle locks ts → (session : ℕ) (on : Resource) (asked : Pair) → NoFoeIn session on asked locks → NoFoe session on asked (shown rows locks ts log)
  no_foe_shown ts log idle session on asked free other differ = rw (locks_shown ts log idle other) (free other differ)

  pub foe_shown : (ts : List Opened) (log : List LogEntry) → IsIdle locks ts → (session : ℕ) (on : Resource) (asked : Pair) (holder : ℕ) (held : Pair) → IsFoeIn session on asked locks holder held → IsFoe session on asked (shown rows locks ts log) holder held
  foe_shown ts log idle session on asked holder held foe =
      (foe.0, foe.1 ∙ ap (pair_on on) (sym (locks_shown ts log idle holder)), foe.2, λ lower below differ. rw (locks_shown ts log idle lower) (foe.3 lower below differ))

-- ---- changes of locks

module _ (rows : Rows) where
  abbrev change_locks : (List Lock → List Lock) → Transaction → Transaction
  change_locks g t = record t { locks = g t.locks }

  locks_changed : (session : ℕ) (g : List Lock → List Lock) (old new : List SessionLock) → ChangesLocks session g old new → (ts : List Opened)
      → map (shown_transaction rows new) ts ≡ with_session_in session (change_locks g) (map (shown_transaction rows old) ts)
  locks_changed session g old new changes [] = refl
  locks_changed session g old new changes (x ∷ ts) = rw (locks_changed session g old new changes ts, changes x.session) (by_test (x.session == session))
    where
      by_test : (b : Bool) → record (shown_transaction rows old x) { locks = if b then g (of_session x.session old) else of_session x.session old } ∷ with_session_in session (change_locks g) (map (shown_transaction rows old) ts)
          ≡ (if b then change_locks g (shown_transaction rows old x) else shown_transaction rows old x) ∷ with_session_in session (change_locks g) (map (shown_transaction rows old) ts)
      by_test true = refl
      by_test false = refl

  -- one session's locks have changed
  pub changes_shown : (session : ℕ) (g : List Lock → List Lock) (old new : List SessionLock) (ts : List Opened) (log : List LogEntry) → ChangesLocks session g old new
      → shown rows new ts log ≡ with_session session (λ t. record t { locks = g t.locks }) (shown rows old ts log)
  changes_shown session g old new ts log changes = ap (λ (a : List Transaction). record { entries = entries_of rows; active = a; log = log }) (locks_changed session g old new changes ts)

  pub granted_shown : (session : ℕ) (more : List Lock) (old new : List SessionLock) (ts : List Opened) (log : List LogEntry) → ChangesLocks session (λ locks. locks ++ more) old new
      → shown rows new ts log ≡ with_locks session more (shown rows old ts log)
  granted_shown session more old new ts log changes = changes_shown session (λ locks. locks ++ more) old new ts log changes

  same_all : (old new : List SessionLock) → KeepsLocks old new → (ts : List Opened) → map (shown_transaction rows new) ts ≡ map (shown_transaction rows old) ts
  same_all old new same [] = refl
  same_all old new same (x ∷ ts) = rw (same_all old new same ts, same x.session) refl

  pub same_shown : (old new : List SessionLock) (ts : List Opened) (log : List LogEntry) → KeepsLocks old new → shown rows new ts log ≡ shown rows old ts log
  same_shown old new ts log same = ap (λ (a : List Transaction). record { entries = entries_of rows; active = a; log = log }) (same_all old new same ts)

-- no lock is added
pub none_added : (session : ℕ) (locks : List SessionLock) → ChangesLocks session (λ own. own ++ []) locks locks
none_added session locks who = by_test (who == session)
  where
    by_test : (b : Bool) → of_session who locks ≡ (if b then of_session who locks ++ [] else of_session who locks)
    by_test true = sym (append-nil (of_session who locks))
    by_test false = refl

-- who is open may get locks
pub idle_changes : (f : List Lock → List Lock) (session : ℕ) (old new : List SessionLock) (ts : List Opened) → is_active session ts ≡ true → ChangesLocks session f old new → IsIdle old ts → IsIdle new ts
idle_changes f session old new ts begun changes idle who closed = changes who ∙ by_test (who == session) refl
  where
    by_test : (b : Bool) → (who == session) ≡ b → (if b then f (of_session who old) else of_session who old) ≡ []
    by_test true is = let same : who ≡ session = eqb-true who session is in let h : true ≡ false = sym begun ∙ ap (λ (n : ℕ). is_active n ts) (sym same) ∙ closed in cc
    by_test false is = idle who closed

pub idle_same : (old new : List SessionLock) (ts : List Opened) → KeepsLocks old new → IsIdle old ts → IsIdle new ts
idle_same old new ts same idle who closed = same who ∙ idle who closed
