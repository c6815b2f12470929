-- Own: what the parts of the engine keep, beside what holds of its state as the model has that.
use Rattle.std.specs.Prelude.{◌≡◌, ℕ, ◌+◌, ◌≤◌, false, List, [], Option, None, Some, vec_len}
use Rattle.std.specs.Vec.{vec_capacity}
use Rattle.std.specs.List.{AllByRecursion}
use Rattle.value_types.specs.declared.value.Value.{Value}
use Rattle.step_model.specs.Locks.{has_lock, is_x}
use Rattle.step_model.specs.Entries.{Entry, entry_on}
use Rattle.step_model.specs.State.{Engine}
use Rattle.row_store.specs.Rows.{Rows, entries_of, belongs, AreBelow}
use Rattle.lock_table.specs.Table.{SessionLock, of_session}
use Rattle.engine_core.specs.Transactions.{Opened, is_active, levels_in, AreDistinct, AreNumbered}
use Rattle.engine_core.specs.Shown.{shown}
use Rattle.engine_core.specs.declared.parts.Parts.TheInside.{Inside}

-- outside a transaction a session has no locks
abbrev pub IsIdle : List SessionLock → List Opened → Type 0
IsIdle locks active = (session : ℕ) → is_active session active ≡ false → of_session session locks ≡ []

abbrev pub IsHeld : Rows → List SessionLock → Entry → Option (List Value) → Type 0
IsHeld rows locks entry (Some row) = Unit {0}
IsHeld rows locks entry None = (session : ℕ) → belongs session rows entry.table entry.key ≡ has_lock is_x (entry_on entry) (of_session session locks)

-- an entry without a committed row belongs to a session just where that has X on it
abbrev pub AreHeld : Rows → List SessionLock → List Entry → Type 0
AreHeld rows locks entries = AllByRecursion (λ entry. IsHeld rows locks entry entry.committed) entries

-- no session has written a state at a level that its transaction has not reached
abbrev pub IsReached : Rows → List Opened → Type 0
IsReached rows active = (session level : ℕ) → levels_in session active ≤ level → AreBelow session level rows

abbrev pub state : Inside → Engine
state parts = shown parts.rows parts.locks parts.active.items parts.log.items

-- also, the log has room for the commit of each open transaction
pub record IsWellFormed (parts : Inside) : Type 0 where
  pub distinct : AreDistinct parts.active.items
  pub numbered : AreNumbered parts.active.items
  pub idle : IsIdle parts.locks parts.active.items
  pub held : AreHeld parts.rows parts.locks (entries_of parts.rows)
  pub reached : IsReached parts.rows parts.active.items
  pub room : vec_len parts.log + vec_len parts.active ≤ vec_capacity parts.log
