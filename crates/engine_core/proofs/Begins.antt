-- The beginning of a transaction.
use Rattle.std.proofs.Common.{◌≡◌, ℕ, ◌≤◌, ◌==◌, Bool, true, false, if◌then◌else◌, List, [], ◌∷◌, Option, None, Some, is_some, refl, sym, ap, ◌∙◌, eqb-true, arith}
use Rattle.step_model.specs.Log.{Commit as LogEntry}
use Rattle.step_model.specs.Locks.{Lock}
use Rattle.step_model.specs.Moves.{after_begin}
use Rattle.history_laws.proofs.Basics.{neither}
use Rattle.row_store.specs.Rows.{Rows}
use Rattle.lock_table.specs.Table.{SessionLock}
use Rattle.engine_core.specs.Transactions.{Opened, opened_in, is_active, levels_of, levels_in}
use Rattle.engine_core.specs.Shown.{shown, shown_transaction}
use Rattle.engine_core.specs.WellFormed.{IsIdle, IsReached}
use Rattle.engine_core.proofs.Sessions.{active_found}

abbrev pub fresh : ℕ → Opened
fresh session = record { session = session; made = 0; marks = []; wait = None; victim = None }

module _ (rows : Rows) (locks : List SessionLock) (ts : List Opened) (session : ℕ) (closed : is_active session ts ≡ false) where
  pub idle_begun : IsIdle locks ts → IsIdle locks (fresh session ∷ ts)
  idle_begun idle who none = idle who (neither (session == who) (is_active who ts) none).1

  levels_closed : levels_in session ts ≡ 0
  levels_closed = by_found (opened_in session ts) (active_found session ts ∙ closed)
    where
      by_found : (o : Option Opened) → is_some o ≡ false → levels_of o ≡ 0
      by_found None is = refl
      by_found (Some t) is = cc

  pub reached_begun : IsReached rows ts → IsReached rows (fresh session ∷ ts)
  reached_begun reached who level above = reached who level (by_test (session == who) refl above)
    where
      by_test : (b : Bool) → (session == who) ≡ b → levels_of (if b then Some (fresh session) else opened_in who ts) ≤ level → levels_in who ts ≤ level
      by_test true is above = let same : session ≡ who = eqb-true session who is in let none : levels_in who ts ≡ 0 = ap (λ (n : ℕ). levels_in n ts) (sym same) ∙ levels_closed in omega (arith, none)
      by_test false is above = above

  pub begin_shown : (log : List LogEntry) → IsIdle locks ts → shown rows locks (fresh session ∷ ts) log ≡ after_begin session (shown rows locks ts log)
  begin_shown log idle = ap (λ (own : List Lock). record (shown rows locks ts log) { active = record (shown_transaction rows locks (fresh session)) { locks = own } ∷ (shown rows locks ts log).active }) (idle session closed)
