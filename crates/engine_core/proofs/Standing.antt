-- Waits that stand and victims' marks: changes of an open transaction that leave its marks and its locks.
use Rattle.std.proofs.Common.{◌≡◌, ℕ, ◌==◌, Bool, true, false, if◌then◌else◌, List, [], ◌∷◌, map, refl, sym, ap, subst, arith}
use Rattle.step_model.specs.Log.{Commit as LogEntry}
use Rattle.step_model.specs.State.{Transaction}
use Rattle.step_model.specs.Moves.{with_session_in, with_session}
use Rattle.row_store.specs.Rows.{Rows, entries_of}
use Rattle.lock_table.specs.Table.{SessionLock}
use Rattle.engine_core.specs.Transactions.{Opened, with_opened, AreDistinct, AreNumbered}
use Rattle.engine_core.specs.Shown.{shown, shown_transaction}
use Rattle.engine_core.specs.WellFormed.{IsIdle, IsReached}
use Rattle.engine_core.proofs.Sessions.{distinct_changed, numbered_changed}
use Rattle.engine_core.proofs.Marking.{idle_changed, reached_changed}

module _ (session : ℕ) (f : Opened → Opened) (g : Transaction → Transaction) (rows : Rows) (locks : List SessionLock)
    (shows : (t : Opened) → shown_transaction rows locks (f t) ≡ g (shown_transaction rows locks t)) where
  changed_all : (ts : List Opened) → map (shown_transaction rows locks) (with_opened session f ts) ≡ with_session_in session g (map (shown_transaction rows locks) ts)
  changed_all [] = refl
  changed_all (x ∷ ts) = by_test (x.session == session) (changed_all ts)
    where
      by_test : (b : Bool) → map (shown_transaction rows locks) (with_opened session f ts) ≡ with_session_in session g (map (shown_transaction rows locks) ts)
          → shown_transaction rows locks (if b then f x else x) ∷ map (shown_transaction rows locks) (with_opened session f ts)
          ≡ (if b then g (shown_transaction rows locks x) else shown_transaction rows locks x) ∷ with_session_in session g (map (shown_transaction rows locks) ts)
      by_test true rest = λ i. shows x i ∷ rest i
      by_test false rest = ap (λ (us : List Transaction). shown_transaction rows locks x ∷ us) rest

  -- the change as the model has it
  pub changed_shown : (ts : List Opened) (log : List LogEntry) → shown rows locks (with_opened session f ts) log ≡ with_session session g (shown rows locks ts log)
  changed_shown ts log = ap (λ (a : List Transaction). record { entries = entries_of rows; active = a; log = log }) (changed_all ts)

-- ---- what stays

module _ (session : ℕ) (f : Opened → Opened) (keeps : (t : Opened) → (f t).session ≡ t.session) (made : (t : Opened) → (f t).made ≡ t.made) (marks : (t : Opened) → (f t).marks ≡ t.marks)
    (ts now : List Opened) (is : now ≡ with_opened session f ts) where
  pub distinct_still : AreDistinct ts → AreDistinct now
  distinct_still distinct = subst AreDistinct (sym is) (distinct_changed session f keeps ts distinct)

  pub numbered_still : AreNumbered ts → AreNumbered now
  numbered_still numbered = subst AreNumbered (sym is) (numbered_changed session f keeps (λ t all. rw (made t, marks t) all) ts numbered)

  pub idle_still : (locks : List SessionLock) → IsIdle locks ts → IsIdle locks now
  idle_still locks idle = subst (IsIdle locks) (sym is) (idle_changed session f keeps locks ts idle)

  pub reached_still : (rows : Rows) → IsReached rows ts → IsReached rows now
  reached_still rows reached = subst (IsReached rows) (sym is) (reached_changed session f keeps rows (λ t. let same = made t in omega (arith, same)) ts reached)
