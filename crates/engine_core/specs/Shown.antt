-- Own: the parts of the engine as the state of the model. What a session has open the model has in one place; the
-- code has its locks in the lock table, and what its marks have saved in the store of rows.
use Rattle.std.specs.Prelude.{ℕ, List, map}
use Rattle.step_model.specs.Log.{Commit as LogEntry}
use Rattle.step_model.specs.State.{Engine, Saved, Transaction}
use Rattle.row_store.specs.Rows.{Rows, entries_of, pending_before}
use Rattle.lock_table.specs.Table.{SessionLock, of_session}
use Rattle.engine_core.specs.Transactions.{Opened}

-- a live mark
abbrev pub saved_at : ℕ → Rows → ℕ → Saved
saved_at session rows mark = record { mark = mark; pending = pending_before session mark rows }

-- an open transaction
abbrev pub shown_transaction : Rows → List SessionLock → Opened → Transaction
shown_transaction rows locks opened = record {
  session = opened.session;
  made = opened.made;
  marks = map (saved_at opened.session rows) opened.marks;
  locks = of_session opened.session locks;
  wait = opened.wait;
  victim = opened.victim;
}

-- the whole
abbrev pub shown : Rows → List SessionLock → List Opened → List LogEntry → Engine
shown rows locks active log = record { entries = entries_of rows; active = map (shown_transaction rows locks) active; log = log }
